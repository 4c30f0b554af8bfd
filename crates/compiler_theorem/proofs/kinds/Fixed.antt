-- An instruction for which nothing is fetched stands at its own place in the framed form.
use Rattle.std.proofs.Common.{◌≡◌, ℕ, Bool, true, false, List, Option, Some, None, refl, ap, ◌∙◌}
use Rattle.std.specs.Prelude.{if◌then◌else◌, slice_get}
use Rattle.compiler.specs.ir_model.declared.instr.Instr.{Instr}
use Rattle.compiler.specs.ir_model.declared.module.Function.{Function}
use Rattle.compiler.specs.ir_parts.Contents.{instr_operands}
use Rattle.compiler.specs.ir_paths.Windows.{instr_at}
use Rattle.compiler.specs.pass_addresses.Placing.{lies_outside, stays, without_promise_of}
use Rattle.compiler.specs.pass_cells.Cells.{fetches_of}
use Rattle.compiler.specs.pass_copies.BeginCopies.{is_fetched}
use Rattle.pass_frames_meaning.specs.pass_frames_proof.Stepping.{state_in}
use Rattle.compiler.specs.pass_fetch.Instrs.{with_fetched}
use Rattle.compiler.specs.pass_fetch.declared.fetch.Fetch.{Fetch}
use Rattle.pass_frames_meaning.proofs.pass_frames_proof.asking.Finals.{IsKeptIn, KeepsHere, both_here, own_there}
use Rattle.pass_frames_meaning.proofs.pass_frames_proof.code.Idle.{instr_same}
use Rattle.pass_frames_meaning.specs.pass_frames_proof.Code.{slot_table}
use Rattle.pass_frames_meaning.specs.pass_frames_proof.Layers.{Layer, each, only}
use Rattle.pass_frames_meaning.specs.pass_frames_proof.Passes.{fetching_at, unmarked_at}
use Rattle.pass_frames_meaning.specs.pass_frames_proof.Places.{Framing, addressing_layer, celled_layer, copied_layer, copies, copying_layer, framed, instrs_at, loading_layer, marked, named, offsets, own_place, placed_layer, plan, unmarked, unmarked_layer, writing_layer}
use Rattle.compiler.specs.pass_front.Front.{is_no_alloca}
use Rattle.compiler.specs.pass_proofs.fetch.rules.Fetches.{AreUnfetched}

module _ (x : Framing) (i0 : Instr) (loads : AreUnfetched (fetches_of (plan x)) (instr_operands i0))
    (wheres : AreUnfetched (copies x).fetches (instr_operands i0))
    (places : AreUnfetched (slot_table x) (instr_operands i0)) (stays_there : stays (marked x) i0 ≡ true)
    (promise : without_promise_of i0 ≡ i0) (lies : lies_outside (offsets x) i0 ≡ true)
    (plain : is_no_alloca i0 ≡ true) where
  abbrev C : Instr → Type 0
  C i = i ≡ i0

  abbrev says : Instr → Bool
  says i = true

  abbrev Keeps : {S : Type 0} → Layer S → Type 0
  Keeps L = KeepsHere C says L

  fetching_here : (f : Function) (t : List (Option Fetch)) (k : ℕ) → AreUnfetched t (instr_operands i0)
      → Keeps (fetching_at f t k)
  fetching_here f t k none = record {
    here = λ n i c. (with_fetched t n i, refl, ap (with_fetched t n) c ∙ instr_same t n i0 none, refl);
  }

  passing : (test : Instr → Bool) → test i0 ≡ true → Keeps (only test)
  passing test h = record {
    here = λ s i c. (i, ap (λ (b : Bool). if b then Some i else None) (ap test c ∙ h), c, refl);
  }

  module _ (k : ℕ) where
    writing_here : Keeps (writing_layer x k)
    writing_here = record { here = λ n i c. (i, refl, c, refl) }

    copying_here : Keeps (copying_layer x k)
    copying_here = record { here = λ s i c. by_flag (is_fetched s.0 i) s.1 i c }
      where
        by_flag : (b : Bool) (n : ℕ) (i : Instr) → C i
            → IsKeptIn C says i (Some (if b then with_fetched (copies x).fetches n i else i))
        by_flag true n i c = (
          with_fetched (copies x).fetches n i,
          refl,
          ap (with_fetched (copies x).fetches n) c ∙ instr_same (copies x).fetches n i0 wheres,
          refl,
        )
        by_flag false n i c = (i, refl, c, refl)

    promise_here : Keeps (each without_promise_of)
    promise_here = record {
      here = λ s i c. (without_promise_of i, refl, ap without_promise_of c ∙ promise, refl);
    }

    placed_here : Keeps (placed_layer x k)
    placed_here =
        both_here C says (unmarked_layer x k) (addressing_layer x k)
        (both_here C says (copied_layer x k) (unmarked_at (marked x))
        (both_here C says (celled_layer x k) (copying_layer x k)
        (both_here C says (loading_layer x k) (writing_layer x k)
        (fetching_here (named x) (fetches_of (plan x)) k loads) writing_here) copying_here)
        (both_here C says (only (stays (marked x))) (each without_promise_of)
        (passing (stays (marked x)) stays_there) promise_here))
        (both_here C says (fetching_at (unmarked x) (slot_table x) k)
        (only (lies_outside (offsets x))) (fetching_here (unmarked x) (slot_table x) k places)
        (passing (lies_outside (offsets x)) lies))

  pub fixed_there : (k at : ℕ) → slice_get (instrs_at x k) at ≡ Some i0
      → instr_at (framed x) (own_place x (record { block = k; at = at })) ≡ Some i0
  fixed_there k at there =
      let j = (placed_here k).here (state_in x k at) i0 refl in
      own_there x k at i0 j.0 there j.1 (ap is_no_alloca j.2 ∙ plain) ∙ ap Some j.2
