-- The number of a disk's fault.
use Rattle.std.specs.Prelude.{ℕ}
use Rattle.cc_disk.specs.declared.disk.DiskFault.{DiskFault}
use Rattle.cc_disk.specs.declared.disk.DiskFault.TheVariants.{DeviceFailed}

-- the number of DeviceFailed
abbrev pub fault_number : DiskFault → ℕ
fault_number DeviceFailed = 35
