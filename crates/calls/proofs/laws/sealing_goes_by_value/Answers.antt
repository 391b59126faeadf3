use Rattle.calls.proofs.Sealing.{seals_≈}
use Rattle.calls.proofs.Members.{sealing_goes_by_members}
use Rattle.calls.proofs.Ones.{sealing_goes_by_numbers}
use Rattle.calls.proofs.laws.sealing_goes_by_value.Goals as goal

pub returns : goal.returns
returns c = record { values = λ c rows after a g h e s. seals_≈ e s; numbers = sealing_goes_by_numbers; members = sealing_goes_by_members }
