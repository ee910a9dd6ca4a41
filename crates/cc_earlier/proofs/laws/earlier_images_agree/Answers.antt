use Rattle.cc_earlier.proofs.Images.{units_stay, earlier_programs_stay, images_agree, no_agreement_is_new, images_agree_in_words, no_words_agreement_is_new}
use Rattle.cc_earlier.proofs.laws.earlier_images_agree.Goals as goal

pub returns-clause-units : goal.returns-clause-units
returns-clause-units c = let h = c.earlier_texts_stay.ensures in units_stay c.tokens_are_determined.ensures.one h.trees h.none_new h.rules h.meaning

pub returns-clause-programs : goal.returns-clause-programs
returns-clause-programs c = let h = c.earlier_texts_stay.ensures in earlier_programs_stay c.tokens_are_determined.ensures.one h.trees h.none_new h.rules h.meaning

pub returns-clause-images : goal.returns-clause-images
returns-clause-images c = let h = c.earlier_texts_stay.ensures in images_agree c.tokens_are_determined.ensures.one h.trees h.none_new h.rules h.meaning

pub returns-clause-none_new : goal.returns-clause-none_new
returns-clause-none_new c = let h = c.earlier_texts_stay.ensures in no_agreement_is_new c.tokens_are_determined.ensures.one h.trees h.none_new h.rules h.meaning

pub returns-clause-images_in_words : goal.returns-clause-images_in_words
returns-clause-images_in_words c = let h = c.earlier_texts_stay.ensures in images_agree_in_words c.tokens_are_determined.ensures.one h.trees h.none_new h.rules h.meaning

pub returns-clause-none_new_in_words : goal.returns-clause-none_new_in_words
returns-clause-none_new_in_words c = let h = c.earlier_texts_stay.ensures in no_words_agreement_is_new c.tokens_are_determined.ensures.one h.trees h.none_new h.rules h.meaning
