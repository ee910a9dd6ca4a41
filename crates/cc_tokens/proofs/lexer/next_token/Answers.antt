use Rattle.std.proofs.Common.{arith, ◌≡◌, length, length-drop, subst}
use Rattle.cc_tokens.specs.declared.scan.Head.TheVariants as head
use Rattle.cc_tokens.specs.Reading.{FoundBefore}
use Rattle.cc_tokens.proofs.Found.{head_at, found_blank, found_comment, found_token, found_error, stands_within}
use Rattle.cc_tokens.proofs.lexer.next_token.Goals as goal

pub loop-at-preserved-in-Blank : goal.loop-at-preserved-in-Blank
loop-at-preserved-in-Blank c =
    let at = c.loop-at.at in
    let stands = head_at c.args.text.now at head.Blank (omega arith) c.in-Blank.ensures in
    record {
      found = λ ts f. found_blank c.args.text.now ts at 1 (c.loop-at.invariant.found ts f) stands.0 stands.1;
      later = omega (arith, c.loop-at.invariant.later);
      within = omega arith;
    }

pub overflow_add-at-in-Comment : goal.overflow_add-at-in-Comment
overflow_add-at-in-Comment c =
    let stands = head_at c.args.text.now c.loop-at.at (head.Comment c.in-Comment.n) (omega arith) c.in-Comment.ensures in
    omega (arith, stands_within c.args.text.now c.loop-at.at c.in-Comment.n _ (omega arith) stands.1)

pub loop-at-smaller : goal.loop-at-smaller
loop-at-smaller c =
    let stands = head_at c.args.text.now c.loop-at.at (head.Comment c.in-Comment.n) (omega arith) c.in-Comment.ensures in
    omega (arith, stands.1.some)

pub loop-at-preserved : goal.loop-at-preserved
loop-at-preserved c =
    let at = c.loop-at.at in
    let stands = head_at c.args.text.now at (head.Comment c.in-Comment.n) (omega arith) c.in-Comment.ensures in
    record {
      found = λ ts f. found_comment c.args.text.now ts at c.in-Comment.n (c.loop-at.invariant.found ts f) stands.0 stands.1;
      later = omega (arith, c.loop-at.invariant.later);
      within = stands_within c.args.text.now at c.in-Comment.n _ (omega arith) stands.1;
    }

pub overflow_add-to : goal.overflow_add-to
overflow_add-to c =
    let stands = head_at c.args.text.now c.loop-at.at (head.Token c.in-Token.kind c.in-Token.n) (omega arith) c.in-Token.ensures in
    omega (arith, stands_within c.args.text.now c.loop-at.at c.in-Token.n _ (omega arith) stands.1)

pub returns-in-Token-clause-found : goal.returns-in-Token-clause-found
returns-in-Token-clause-found c =
    let at = c.loop-at.at in
    let stands = head_at c.args.text.now at (head.Token c.in-Token.kind c.in-Token.n) (omega arith) c.in-Token.ensures in
    λ ts f. found_token c.args.text.now ts at c.in-Token.n (c.loop-at.invariant.found ts f) c.in-Token.kind stands.0 stands.1

pub returns-in-Token-clause-behind : goal.returns-in-Token-clause-behind
returns-in-Token-clause-behind c =
    let at = c.loop-at.at in
    let stands = head_at c.args.text.now at (head.Token c.in-Token.kind c.in-Token.n) (omega arith) c.in-Token.ensures in
    (c.loop-at.invariant.later, omega (arith, stands.1.some), stands_within c.args.text.now at c.in-Token.n _ (omega arith) stands.1)

pub returns-clause-found : goal.returns-clause-found
returns-clause-found c =
    let done : c.loop-at.at ≡ length c.args.text.now = omega arith in
    λ ts f. subst (λ at. FoundBefore c.args.text.now ts at) done (c.loop-at.invariant.found ts f)

pub overflow_add-result : goal.overflow_add-result
overflow_add-result c =
    let erroneous = head_at c.args.text.now c.loop-at.at (head.Error c.in-Error.error c.in-Error.n) (omega arith) c.in-Error.ensures in
    omega (arith, erroneous.0, length-drop c.loop-at.at c.args.text.now)

pub returns-in-Error-clause-found : goal.returns-in-Error-clause-found
returns-in-Error-clause-found c =
    let at = c.loop-at.at in
    let erroneous = head_at c.args.text.now at (head.Error c.in-Error.error c.in-Error.n) (omega arith) c.in-Error.ensures in
    λ ts f. found_error c.args.text.now ts at c.in-Error.n c.in-Error.error (c.loop-at.invariant.found ts f) erroneous.1

pub returns-in-Error-clause-behind : goal.returns-in-Error-clause-behind
returns-in-Error-clause-behind c =
    let erroneous = head_at c.args.text.now c.loop-at.at (head.Error c.in-Error.error c.in-Error.n) (omega arith) c.in-Error.ensures in
    (omega (arith, c.loop-at.invariant.later), omega (arith, erroneous.0, length-drop c.loop-at.at c.args.text.now))
