-- The code of an accepted source and its framed form is as is asked of coroutines that are woken.
use Rattle.std.proofs.Common.{◌≡◌, ℕ, true}
use Rattle.compiler_theorem.proofs.theorem.Slots.{split_slots}
use Rattle.compiler_theorem.proofs.narrow.Modules.{edged_steady}
use Rattle.compiler_theorem.proofs.woken.Forms.{begins, entry_plain, form_allocas, framed_begins}
use Rattle.compiler_theorem.proofs.theorem.Built.{framings}
use Rattle.compiler_theorem.proofs.woken.Fronts.{front_own}
use Rattle.compiler_theorem.proofs.woken.Handed.{crossing_handed, flags_outside, flags_unmarked, handed_alone}
use Rattle.compiler_theorem.proofs.woken.Rooted.{roots_told}
use Rattle.compiler_theorem.specs.theorem.Anew.{Anew, IsAnewOf}
use Rattle.compiler_theorem.specs.theorem.Asked.{asking}
use Rattle.compiler_theorem.specs.theorem.Entries.{Run}
use Rattle.compiler_theorem.specs.theorem.Lowered.{HasFewBytes, IsLowered, Lowered, early}
use Rattle.compiler.specs.ir_model.Names.{function_at}
use Rattle.pass_frames_meaning.specs.Woken.{IsWakeable, KeepsWaking}

module _ (l : Lowered) (low : IsLowered l) (few : HasFewBytes l) (a : Anew) (anew : IsAnewOf (early l) a)
    (r : Run) where
  wakeable : (func : ℕ) → (function_at (early l) func).coroutine ≡ true
      → IsWakeable (asking l low a r) func ((asking l low a r).b.framing func)
  wakeable func is = record {
    rules = form_allocas l low r.answers func is;
    entry = entry_plain l low r.answers func is;
    begins = begins l low r.answers func is;
    framed_begins = framed_begins l low r.answers func is;
    outside = flags_outside l low a anew r func is;
    unmarked = flags_unmarked l low a anew r func is;
    handed = λ j p v number. crossing_handed l low a anew r func is j p v number;
    alone = λ j p v number. handed_alone l low a anew r func is j p v number;
    fronts = λ v here lt. front_own ((asking l low a r).b.framing func) (framings l low r.answers func is) v lt here;
    roots = roots_told l low a anew r func is;
  }

  pub waking_kept : KeepsWaking (asking l low a r)
  waking_kept = record { slots = split_slots l low a anew (edged_steady l low few); coroutines = wakeable }
