-- What is said of live slots, in the words of the analysis of slots.
use Rattle.std.proofs.Common.{◌≡◌, inl, inr, ℕ, zero, suc, Bool, true, false, List, [], ◌∷◌, ◌++◌, length}
use Rattle.std.proofs.Common.{Some, None, refl, sym, ap, ◌∙◌, ◌&&◌, ◌||◌}
use Rattle.std.specs.List.{list_any}
use Rattle.std.specs.Prelude.{if◌then◌else◌, slice_get}
use Rattle.pass_renewed_proof.specs.frame_classes.Alive.{MayBeAlive, Started, Unmarked, markers_of}
use Rattle.pass_renewed_proof.specs.frame_slots.Uses.{ends_of, is_marker_of as marks}
use Rattle.pass_renewed_proof.specs.ir_model.Names.{is_local, same_intrinsic}
use Rattle.pass_renewed_proof.specs.ir_model.declared.instr.Instr.{Instr}
use Rattle.pass_renewed_proof.specs.ir_model.declared.module.Block.{Block}
use Rattle.pass_renewed_proof.specs.ir_model.declared.module.Function.{Function}
use Rattle.pass_renewed_proof.specs.ir_model.declared.module.Module.{Module}
use Rattle.pass_renewed_proof.specs.ir_model.declared.operand.Arg.{Arg}
use Rattle.pass_renewed_proof.specs.ir_model.declared.operand.Callee.{Callee}
use Rattle.pass_renewed_proof.specs.ir_model.declared.operand.Intrinsic.{Intrinsic}
use Rattle.pass_renewed_proof.specs.ir_paths.Paths.{IsPath}
use Rattle.pass_renewed_proof.specs.ir_paths.Windows.{operand_at, points_from, points_in}
use Rattle.pass_renewed_proof.specs.ir_paths.declared.point.Point.{Point}
use Rattle.pass_renewed_proof.specs.pass_kept_proof.Kept.{kept}
use Rattle.run_hooks.specs.alive.Alive.{Account, AreAliveAt, AreAliveIn, IsAliveIn, IsAliveSomewhere, IsAliveState}
use Rattle.run_hooks.specs.alive.Alive.{IsThere, Stays}
use Rattle.run_hooks.specs.alive.Alive.{account_of}
use Rattle.run_hooks.specs.alive.Slots.{IsAliveSlot, lives}
use Rattle.pass_renewed_proof.specs.run_memory.declared.block.MemoryBlock.{MemoryBlock}
use Rattle.pass_renewed_proof.specs.run_source.Source.{is_over}
use Rattle.pass_renewed_proof.specs.run_source.State.{is_finished}
use Rattle.pass_renewed_proof.specs.run_source.declared.state.Activation.{Activation}
use Rattle.pass_renewed_proof.specs.run_source.declared.state.Instance.{Instance}
use Rattle.pass_renewed_proof.specs.run_source.declared.state.State.{State}
use Rattle.pass_renewed_proof.specs.run_source.declared.state.Status.{Status}
use Rattle.pass_renewed_proof.specs.run_step.Step.{block_of, has_markers, is_lifetime, is_marker_of}
use Rattle.pass_renewed_proof.specs.run_step.Values.{Env, value_in}
use Rattle.pass_renewed_proof.specs.run_step.declared.world.Slot.{Slot}
use Rattle.run_hooks.proofs.alive.Parts.{all_where}

-- ---- a slot without markers

false_end : (a b : Bool) → (a || b) ≡ false → b ≡ false
false_end true b e = absurd (cc)
false_end false b e = e

false_first : (a b : Bool) → (a || b) ≡ false → a ≡ false
false_first true b e = absurd (cc)
false_first false b e = refl

both_are : (a b : Bool) → (a && b) ≡ true → (a ≡ true) × (b ≡ true)
both_are true b e = (refl, e)
both_are false b e = absurd (cc)

among : (v : ℕ) (args : List Arg) → is_local v (operand_at args 1) ≡ true → list_any (λ a. is_local v a.value) args
    ≡ true
among v [] e = absurd (cc)
among v (a ∷ []) e = absurd (cc)
among v (a ∷ b ∷ args) e = on (is_local v a.value) (is_local v b.value) e
  where
    on : (x y : Bool) → y ≡ true → (x || (y || list_any (λ c. is_local v c.value) args)) ≡ true
    on true y k = refl
    on false true k = refl
    on false false k = absurd (cc)

-- a start or end of the slot is one of its markers
module _ (marker : Intrinsic) (is : (x : Intrinsic) → same_intrinsic marker x ≡ true
    → is_lifetime (Callee.Intrinsic x) ≡ true) where
  marked : (v : ℕ) (i : Instr) → marks marker v i ≡ true → is_marker_of v i ≡ true
  marked v (Instr.Call result must_tail ty (Callee.Intrinsic x) args) e =
      let r = both_are _ _ e in
      (λ j. is x r.0 j && list_any (λ a. is_local v a.value) args) ∙ among v args r.1
  marked v _ e = absurd (cc)

  none_from : (v block at : ℕ) (is' : List Instr) → list_any (is_marker_of v) is' ≡ false
      → points_from (marks marker v) block at is' ≡ []
  none_from v block at [] e = refl
  none_from v block at (i ∷ is') e =
      on (marks marker v i) refl (none_from v block (suc at) is' (false_end (is_marker_of v i) _ e))
    where
      on : (t : Bool) → marks marker v i ≡ t → points_from (marks marker v) block (suc at) is' ≡ []
          → (if t then record { block = block; at = at } ∷ points_from (marks marker v) block (suc at) is'
          else points_from (marks marker v) block (suc at) is') ≡ []
      on true et rest = let no : true ≡ false = sym (marked v i et) ∙ false_first (is_marker_of v i) _ e in absurd (cc)
      on false et rest = rest

  none_in : (v block : ℕ) (bs : List Block) → list_any (λ b. list_any (is_marker_of v) b.instrs) bs ≡ false
      → points_in (marks marker v) block bs ≡ []
  none_in v block [] e = refl
  none_in v block (b ∷ bs) e =
      ap (λ (ps : List Point). ps ++ points_in (marks marker v) (suc block) bs)
      (none_from v block 0 b.instrs (false_first (list_any (is_marker_of v) b.instrs) _ e))
      ∙ none_in v (suc block) bs (false_end (list_any (is_marker_of v) b.instrs) _ e)

starts_mark : (x : Intrinsic) → same_intrinsic Intrinsic.LifetimeStart x ≡ true
    → is_lifetime (Callee.Intrinsic x) ≡ true
starts_mark Intrinsic.LifetimeStart e = refl
starts_mark _ e = absurd (cc)

ends_mark : (x : Intrinsic) → same_intrinsic Intrinsic.LifetimeEnd x ≡ true
    → is_lifetime (Callee.Intrinsic x) ≡ true
ends_mark Intrinsic.LifetimeEnd e = refl
ends_mark _ e = absurd (cc)

pub none_marked : (f : Function) (v : ℕ) → has_markers f v ≡ false → markers_of f v ≡ []
none_marked f v e =
    ap (λ (ps : List Point). ps ++ ends_of f v) (none_in Intrinsic.LifetimeStart starts_mark v 0 f.blocks e)
    ∙ none_in Intrinsic.LifetimeEnd ends_mark v 0 f.blocks e

-- ---- a live slot

less : (f : Function) (avoided : List Point) (p : Point) (between : List Point) (q : Point)
    → IsPath f avoided p between q
    → IsPath f [] p between q
less f avoided p [] q h = h
less f avoided p (v ∷ between) q h = (h.0, refl, less f avoided v between q h.2)

pub may_be_alive : (counts : ℕ → Bool) (memory : List MemoryBlock) (f : Function) (values : Env) (p : Point)
    (x : Instance) → AreAliveAt counts memory f values p x → (n : ℕ) (slot : Slot) → slice_get x.slots n ≡ Some slot
    → lives memory slot.block ≡ true → counts slot.alloca ≡ true → MayBeAlive f slot.alloca p
may_be_alive counts memory f values p x h n slot e live counted = on (has_markers f slot.alloca) refl
  where
    on : (t : Bool) → has_markers f slot.alloca ≡ t → MayBeAlive f slot.alloca p
    on true marked =
        let o = all_where (IsAliveSlot counts memory f values p) x.slots h.slots n slot e live counted marked in
        Started o.start o.is_start o.path
    on false marked = Unmarked h.runs.start (none_marked f slot.alloca marked) h.runs.is_start
        (record {
          between = h.runs.path.between;
          is_path = less f _ h.runs.start h.runs.path.between p
              h.runs.path.is_path;
        })

-- ---- a Running instance

-- the activation that goes on in it
pub record IsFound (m : Module) (counts : ℕ → ℕ → Bool) (k : Account) (i : ℕ) : Type 0 where
  pub depth : ℕ
  pub activation : Activation
  pub own : activation.instance ≡ Some i
  pub stays : activation.has_left ≡ false
  pub alive : IsAliveIn m counts k depth activation

find : (m : Module) (counts : ℕ → ℕ → Bool) (k : Account) (i : ℕ) (as' : List Activation) → AreAliveIn m counts k as'
    → IsThere i as' → IsFound m counts k i
find m counts k i [] h there = absurd there
find m counts k i (a ∷ below) h (inl t) =
    record { depth = length below; activation = a; own = t.0; stays = t.1; alive = h.0 }
find m counts k i (a ∷ below) h (inr t) = find m counts k i below h.2 t

pub goes_on : (m : Module) (counts : ℕ → ℕ → Bool) (s : State) (h : IsAliveState m counts s) (i : ℕ) (x : Instance)
    → slice_get s.instances i ≡ Some x → x.status ≡ Status.Running → x.freed ≡ false
    → IsAliveSomewhere m counts s i x
goes_on m counts s h i x there running kept =
    let o = find m counts (account_of h.tags s) i (s.top ∷ s.below) h.stack
    ((h.instances i x there).running running kept) in
    let over : is_over x ≡ false = (λ j. is_finished (running j) || kept j) in
    record {
      activation = o.activation;
      own = o.own;
      stays = o.stays;
      alive = o.alive.goes i x o.own there (Stays o.stays) over;
    }

-- ---- what a resume hands on

pub kept_less : (keep : ℕ → Bool) (env : Env) (v b : ℕ) → block_of (value_in (kept keep env) v) ≡ Some b
    → block_of (value_in env v) ≡ Some b
kept_less keep [] v b e = e
kept_less keep (o ∷ env) zero b e = on (keep 0) e
  where
    on : (t : Bool) → block_of (value_in ((if t then o else None) ∷ kept (λ i. keep (suc i)) env) 0) ≡ Some b
        → block_of (value_in (o ∷ env) 0) ≡ Some b
    on true k = k
    on false k = absurd (cc)
kept_less keep (o ∷ env) (suc v) b e = kept_less (λ i. keep (suc i)) env v b e
