-- What an instruction does to its block: behind begin and each save a piece begins, a suspend ends it, and where the part goes on behind a suspend so does the end.
use Rattle.std.specs.Prelude.{ℕ, Bool, true, false, List, [], Some, None, Option, ◌∷◌, if◌then◌else◌}
use Rattle.ir_model.specs.declared.instr.Instr.{Instr}
use Rattle.ir_model.specs.declared.operand.Callee.{Callee}
use Rattle.ir_model.specs.declared.operand.Intrinsic.{Intrinsic}
use Rattle.pass_intrinsics.specs.Lowered.{number_of_save}
use Rattle.pass_intrinsics.specs.Shapes.{begun_label, save_of, saved_label}
use Rattle.pass_intrinsics.specs.declared.cuts.Cut.{Cut}
use Rattle.pass_intrinsics.specs.declared.shape.Part.{Part}
use Rattle.pass_intrinsics.specs.declared.shape.Shape.{Shape}

abbrev pub goes_on : Part → Bool
goes_on Part.Ramp = false
goes_on Part.GivenRamp = false
goes_on Part.Resume = true
goes_on Part.Destroy = true
goes_on Part.Cleanup = true

abbrev pub marks_save : Shape → Option ℕ → Cut
marks_save s None = Cut.Stays
marks_save s (Some j) = Cut.Marks (saved_label s j)

-- the token of a suspend that an instruction is
abbrev pub token_in : Instr → Option ℕ
token_in (Instr.Call r must_tail ty (Callee.Intrinsic Intrinsic.CoroSuspend) args) = save_of args
token_in i = None

-- the number of the suspend that stands next
abbrev pub next_suspend : Shape → List Instr → Option ℕ
next_suspend s [] = None
next_suspend s (i ∷ is) = number_of_save s (token_in i)

abbrev pub transfers : Option ℕ → Cut
transfers None = Cut.Stays
transfers (Some j) = Cut.Transfers j

abbrev pub cut_call : Shape → Part → Option ℕ → List Instr → Intrinsic → Cut
cut_call s part r after Intrinsic.CoroBegin = Cut.Marks (begun_label s)
cut_call s part r after Intrinsic.CoroSave = marks_save s (number_of_save s r)
cut_call s part r after Intrinsic.CoroSuspend = Cut.Suspends
cut_call s part r after Intrinsic.CoroEnd = if goes_on part then Cut.Returns else Cut.Stays
cut_call s part r after Intrinsic.CoroResume = if goes_on part then transfers (next_suspend s after) else Cut.Stays
cut_call s part r after _ = Cut.Stays

-- after are the instructions behind it
abbrev pub cut_at : Shape → Part → Instr → List Instr → Cut
cut_at s part (Instr.Call r must_tail ty (Callee.Intrinsic x) args) after = cut_call s part r after x
cut_at s part i after = Cut.Stays
