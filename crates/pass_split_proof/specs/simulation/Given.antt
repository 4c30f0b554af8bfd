-- Framed modules in which no call gives a frame.
use Rattle.std.specs.Prelude.{◌≡◌, ℕ, true, false, slice_get, Some}
use Rattle.pass_proofs.specs.ir_model.declared.module.Function.{Function}
use Rattle.pass_proofs.specs.ir_model.declared.module.Module.{Module}
use Rattle.pass_proofs.specs.pass_split.Given.{has_given_call}

-- no call of the module gives an instance of a coroutine its frame, so each frame lies in a block of an allocator
abbrev pub GivesNoFrame : Module → Type 0
GivesNoFrame m = (k : ℕ) (f : Function) → slice_get m.functions k ≡ Some f → f.coroutine ≡ true
    → has_given_call m f ≡ false
