-- No digit before this one is in upper case.
use Rattle.std.proofs.Common.{◌≡◌, false, take}
use Rattle.std.specs.List.{list_any}
use Rattle.csi_json.specs.Public.Hexadecimal.{is_upper_digit}
use Rattle.csi_json.proofs.hexadecimal.has_upper_digit.Given as goal

abbrev pub invariant-loop-digit : goal.invariant-loop-digit
invariant-loop-digit l = list_any is_upper_digit (take l.digit-index l.digits) ≡ false
