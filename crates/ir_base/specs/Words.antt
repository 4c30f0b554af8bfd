-- The words that the program prints, and its statuses.
use Rattle.std.specs.Prelude.{ℕ, List, codes}
use Rattle.ir_base.specs.declared.cause.Cause.{Cause}
use Rattle.ir_base.specs.declared.rule.Rule.{Rule}
use Rattle.ir_base.specs.declared.status.Status.{Status}

abbrev pub cause_word : Cause → List ℕ
cause_word Cause.Poison = codes "poison"
cause_word Cause.Div = codes "div"
cause_word Cause.Unreachable = codes "unreachable"
cause_word Cause.Dead = codes "dead"
cause_word Cause.Bounds = codes "bounds"
cause_word Cause.Align = codes "align"
cause_word Cause.Constant = codes "constant"
cause_word Cause.Overlap = codes "overlap"
cause_word Cause.Owned = codes "owned"
cause_word Cause.Compare = codes "compare"
cause_word Cause.Free = codes "free"
cause_word Cause.Begin = codes "begin"
cause_word Cause.Frame = codes "frame"
cause_word Cause.State = codes "state"
cause_word Cause.Promise = codes "promise"
cause_word Cause.Call = codes "call"

abbrev pub rule_word : Rule → List ℕ
rule_word Rule.L1 = codes "L1"
rule_word Rule.N1 = codes "N1"
rule_word Rule.N2 = codes "N2"
rule_word Rule.N3 = codes "N3"
rule_word Rule.Y1 = codes "Y1"
rule_word Rule.Y2 = codes "Y2"
rule_word Rule.Y3 = codes "Y3"
rule_word Rule.Y4 = codes "Y4"
rule_word Rule.Y5 = codes "Y5"
rule_word Rule.F1 = codes "F1"
rule_word Rule.F2 = codes "F2"
rule_word Rule.F3 = codes "F3"
rule_word Rule.P1 = codes "P1"
rule_word Rule.K1 = codes "K1"
rule_word Rule.K2 = codes "K2"
rule_word Rule.K3 = codes "K3"
rule_word Rule.K4 = codes "K4"
rule_word Rule.K5 = codes "K5"
rule_word Rule.K6 = codes "K6"
rule_word Rule.K7 = codes "K7"
rule_word Rule.K8 = codes "K8"
rule_word Rule.K9 = codes "K9"
rule_word Rule.K10 = codes "K10"
rule_word Rule.K11 = codes "K11"
rule_word Rule.K12 = codes "K12"
rule_word Rule.K13 = codes "K13"

abbrev pub status_code : Status → ℕ
status_code Status.Done = 0
status_code Status.Refused = 1
status_code Status.Words = 2
status_code Status.Undefined = 3
status_code Status.Unfinished = 4
status_code Status.ReadFault = 5
status_code Status.WriteFault = 6
status_code Status.OutOfMemory = 7
status_code Status.TooLong = 8
