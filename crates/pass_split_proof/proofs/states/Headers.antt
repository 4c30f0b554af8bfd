-- Headers of frames, in memories of the parts' run between related states.
use Rattle.std.proofs.Common.{◌≡◌, ◌≢◌, ℕ, ⊎_elim, true, List, Option, Some, sym, ap, ◌∙◌, subst}
use Rattle.std.proofs.lemmas.Bool.{cases_eq}
use Rattle.std.specs.Prelude.{slice_get}
use Rattle.pass_proofs.specs.run_framed.Framed.{FramedGiven}
use Rattle.pass_proofs.specs.run_memory.declared.block.MemoryBlock.{MemoryBlock}
use Rattle.pass_proofs.specs.run_memory.declared.pointer.Value.{Value}
use Rattle.pass_proofs.specs.ir_paths.declared.point.Point.{Point}
use Rattle.pass_proofs.specs.run_source.declared.state.Instance.{Instance}
use Rattle.pass_proofs.specs.run_source.declared.state.State.{State}
use Rattle.pass_proofs.specs.run_source.declared.state.Status.{Status}
use Rattle.pass_proofs.proofs.run_laws.memory.Written.{same_some}
use Rattle.pass_split_proof.specs.states.Instances.{IsHeadedIn, in_state, is_held}
use Rattle.pass_split_proof.specs.states.Related.{AreHeadersKept, fetched_at, is_save_there}

not_suspended : {suspend : Point} {values : List (Option Value)} → Status.Running ≡ Status.Suspended suspend values → ⊥
not_suspended e = cc

-- what a destroy calls is there whether the instance is Suspended or not
pub running_headed : (g : FramedGiven) (m n : List MemoryBlock) (x : Instance) → IsHeadedIn g m n x
    → IsHeadedIn g m n (in_state x Status.Running x.last_save x.released)
running_headed g m n x h = record {
  destroyer = h.destroyer;
  is = h.is;
  right = h.right;
  stands = h.stands;
  destroys = h.destroys;
  saved = λ suspend values e. absurd (not_suspended e);
}

-- all stand
pub headers_all : (g : FramedGiven) (s : State) (n : List MemoryBlock)
    → ((i : ℕ) (x : Instance) → slice_get s.instances i ≡ Some x → is_held s.world.memory x ≡ true
    → IsHeadedIn g s.world.memory n x) → AreHeadersKept g s n
headers_all g s n h = record {
  headed = λ i x e held other. h i x e held;
  destroyed = λ i x e held. running_headed g s.world.memory n x (h i x e held);
}

-- all but that of the instance that is being saved, whose header names what a destroy calls
pub headers_saving : (g : FramedGiven) (s : State) (n : List MemoryBlock) (i : ℕ) (x : Instance)
    → slice_get s.instances i ≡ Some x → s.top.instance ≡ Some i → is_save_there (fetched_at g s) ≡ true
    → IsHeadedIn g s.world.memory n (in_state x Status.Running x.last_save x.released)
    → ((j : ℕ) (z : Instance) → slice_get s.instances j ≡ Some z → j ≢ i → is_held s.world.memory z ≡ true
    → IsHeadedIn g s.world.memory n z) → AreHeadersKept g s n
headers_saving g s n i x e own saves mine others = record {
  headed = λ j z f held not. ⊎_elim
      (λ same. absurd (not (own ∙ ap (λ (k : ℕ). Some k) (sym same)) saves))
      (λ ne. others j z f ne held)
      (cases_eq j i);
  destroyed = λ j z f held. ⊎_elim
      (λ same. subst (λ (y : Instance). IsHeadedIn g s.world.memory n (in_state y Status.Running y.last_save
      y.released))
      (same_some x z (sym e ∙ ap (slice_get s.instances) (sym same) ∙ f)) mine)
      (λ ne. running_headed g s.world.memory n z (others j z f ne held))
      (cases_eq j i);
}
