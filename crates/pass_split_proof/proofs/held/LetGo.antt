-- An instance is freed: its block dies, and no other frame begins there.
use Rattle.std.proofs.Common.{◌≡◌, ◌≢◌, ℕ, zero, suc, ◌<◌, Bool, true, false, not, List, [], ◌∷◌, length, Option, Some, None, refl, sym, ap, ◌∙◌, subst, ⊎_elim}
use Rattle.std.specs.Prelude.{slice_get, slice_set}
use Rattle.std.proofs.lemmas.Bool.{and_parts, cases_eq, false≢true}
use Rattle.pass_proofs.proofs.flow_solver.Lists.{set_cases}
use Rattle.pass_split_proof.proofs.states.Written.{length-changed}
use Rattle.pass_split_proof.specs.held.Kept.{AreKept, HaveSlots, IsNoHeap, is_heap_in, is_kept_in, is_killed_in}
use Rattle.pass_proofs.proofs.run_laws.memory.Written.{changed_elsewhere, changed_here}
use Rattle.pass_proofs.specs.run_laws.changed.Changed.{Each}
use Rattle.pass_proofs.specs.run_memory.Memory.{disown, disowned, is_killed, is_unkilled, killed, killed_block, same_kind}
use Rattle.pass_proofs.specs.run_memory.declared.block.Kind.{Kind}
use Rattle.pass_proofs.specs.run_memory.declared.block.MemoryBlock.{MemoryBlock}
use Rattle.pass_proofs.specs.run_source.State.{is_suspended}
use Rattle.pass_proofs.specs.run_source.declared.state.Activation.{Activation}
use Rattle.pass_proofs.specs.run_source.declared.state.Instance.{Instance}
use Rattle.pass_proofs.specs.run_step.declared.world.Slot.{Slot}

-- a block of an allocator that wasn't killed
pub record IsUnkilled (m : List MemoryBlock) (b : ℕ) : Type 0 where
  pub block : MemoryBlock
  pub there : slice_get m b ≡ Some block
  pub heap : same_kind block.kind Kind.Allocator ≡ true
  pub alive : is_killed block.life ≡ false

pub unkilled_at : (m : List MemoryBlock) (b : ℕ) → is_unkilled Kind.Allocator (slice_get m b) ≡ true → IsUnkilled m b
unkilled_at m b h = on (slice_get m b) refl h
  where
    no_true : (c : Bool) → not c ≡ true → c ≡ false
    no_true true e = absurd (false≢true e)
    no_true false e = refl

    on : (o : Option MemoryBlock) → slice_get m b ≡ o → is_unkilled Kind.Allocator o ≡ true → IsUnkilled m b
    on None e h = absurd (false≢true h)
    on (Some u) e h =
        let p = and_parts (same_kind u.kind Kind.Allocator) (not (is_killed u.life)) h in
        record { block = u; there = e; heap = p.0; alive = no_true (is_killed u.life) p.1 }

-- of its kind it is what it was, in a memory where it was disowned and killed
heap_dead : (m : List MemoryBlock) (b : ℕ)
    → is_heap_in (slice_get (killed (disown m b) b) b) ≡ is_heap_in (slice_get m b)
heap_dead m b = on (slice_get m b) refl
  where
    nothing : (m : List MemoryBlock) (b : ℕ) → slice_get m b ≡ None → slice_get (killed (disown m b) b) b ≡ None
    nothing [] b e = refl
    nothing (x ∷ m) zero e = absurd (cc)
    nothing (x ∷ m) (suc b) e = nothing m b e

    on : (o : Option MemoryBlock) → slice_get m b ≡ o
        → is_heap_in (slice_get (killed (disown m b) b) b) ≡ is_heap_in (slice_get m b)
    on None e = ap is_heap_in (nothing m b e) ∙ sym (ap is_heap_in e)
    on (Some u) e = ap is_heap_in (changed_here (disown m b) b killed_block (disowned u)
        (changed_here m b disowned u e)) ∙ sym (ap is_heap_in e)

killed_dead : (m : List MemoryBlock) (b : ℕ) (u : MemoryBlock) → slice_get m b ≡ Some u
    → is_killed_in (slice_get (killed (disown m b) b) b) ≡ true
killed_dead m b u e = ap is_killed_in (changed_here (disown m b) b killed_block (disowned u)
    (changed_here m b disowned u e))

elsewhere_dead : (m : List MemoryBlock) (b c : ℕ) → c ≢ b → slice_get (killed (disown m b) b) c ≡ slice_get m c
elsewhere_dead m b c ne = changed_elsewhere (disown m b) b c killed_block ne ∙ changed_elsewhere m b c disowned ne

-- blocks of no allocators stay so
no_heap_dead : (m : List MemoryBlock) (b c : ℕ) → IsNoHeap m c → IsNoHeap (killed (disown m b) b) c
no_heap_dead m b c x = record {
  known = subst (λ (l : ℕ). c < l) (sym (length-changed (disown m b) b killed_block ∙ length-changed m b disowned))
      x.known;
  is = ⊎_elim
      (λ e. ap (λ (a : ℕ). is_heap_in (slice_get (killed (disown m b) b) a)) e ∙ heap_dead m b
      ∙ ap (λ (a : ℕ). is_heap_in (slice_get m a)) (sym e) ∙ x.is)
      (λ ne. ap is_heap_in (elsewhere_dead m b c ne) ∙ x.is)
      (cases_eq c b);
}

pub slots_dead : (m : List MemoryBlock) (b : ℕ) (slots : List Slot)
    → Each (λ (slot : Slot). IsNoHeap m slot.block) slots
    → Each (λ (slot : Slot). IsNoHeap (killed (disown m b) b) slot.block) slots
slots_dead m b [] x = tt
slots_dead m b (slot ∷ slots) x = (no_heap_dead m b slot.block x.0, slots_dead m b slots x.1)

pub have_slots_dead : (m : List MemoryBlock) (b : ℕ) (all : List Activation) → HaveSlots m all
    → HaveSlots (killed (disown m b) b) all
have_slots_dead m b [] x = tt
have_slots_dead m b (a ∷ all) x = (slots_dead m b a.slots x.0, have_slots_dead m b all x.1)

module _ (xs : List Instance) (m : List MemoryBlock) (i : ℕ) (x : Instance) (e : slice_get xs i ≡ Some x)
    (start : x.start ≡ 0) (awake : is_suspended x.status ≡ false) (alive : IsUnkilled m x.block) (a : AreKept xs m)
  where
    abbrev b : ℕ
    b = x.block

    abbrev k : List MemoryBlock
    k = killed (disown m b) b

    abbrev now : Instance
    now = record x { freed = true }

    abbrev ys : List Instance
    ys = slice_set xs i now

    heap : is_heap_in (slice_get m b) ≡ true
    heap = ap is_heap_in alive.there ∙ alive.heap

    -- it wasn't freed before
    unfreed_before : x.freed ≡ false
    unfreed_before = on x.freed refl
      where
        on : (f : Bool) → x.freed ≡ f → x.freed ≡ false
        on false f = f
        on true f = absurd (false≢true (sym alive.alive ∙ sym (ap is_killed_in alive.there) ∙ a.gone i x e f heap))

    -- no other frame that isn't freed begins there
    others_apart : (j : ℕ) (z : Instance) → slice_get xs j ≡ Some z → j ≢ i → z.freed ≡ false → z.start ≡ 0
        → z.block ≢ b
    others_apart j z f ne unfreed start' same
        = a.apart i j x z e f (λ h. ne (sym h)) unfreed_before unfreed start start'
        (sym same) heap

    long : length k ≡ length m
    long = length-changed (disown m b) b killed_block ∙ length-changed m b disowned

    now_or : (P : Instance → Type 0) (j : ℕ) (z : Instance) → slice_get ys j ≡ Some z → P now
        → (slice_get xs j ≡ Some z → j ≢ i → P z) → P z
    now_or P j z f here there = ⊎_elim (λ h. subst P (sym h.1) here) (λ h. there h.0 h.1) (set_cases xs i j now z f)

    not_false : (z : Instance) → z ≡ now → z.freed ≡ false → ⊥
    not_false z is unfreed = false≢true (sym unfreed ∙ ap (λ (w : Instance). w.freed) is)

    pub let_go_kept : AreKept ys k
    let_go_kept = record {
      known = λ j z f. subst (λ (l : ℕ). z.block < l) (sym long) (now_or (λ (w : Instance). w.block < length m) j z f
          (a.known i x e) (λ f' ne. a.known j z f'));
      kept = λ j z f unfreed start' h. ⊎_elim (λ p. absurd (not_false z p.1 unfreed))
          (λ p. let ne = others_apart j z p.0 p.1 unfreed start' in
          ap is_kept_in (elsewhere_dead m b z.block ne)
          ∙ a.kept j z p.0 unfreed start' (sym (ap is_heap_in (elsewhere_dead m b z.block ne)) ∙ h))
          (set_cases xs i j now z f);
      gone = λ j z f freed h. ⊎_elim
          (λ same. ap (λ (c : ℕ). is_killed_in (slice_get k c)) same ∙ killed_dead m b alive.block alive.there)
          (λ ne. ap is_killed_in (elsewhere_dead m b z.block ne)
          ∙ now_or (λ (w : Instance). w.block ≢ b → w.freed ≡ true → is_heap_in (slice_get m w.block) ≡ true
          → is_killed_in (slice_get m w.block) ≡ true) j z f
          (λ ne' freed' h'. absurd (ne' refl)) (λ f' ne' away freed' h'. a.gone j z f' freed' h') ne freed
          (sym (ap is_heap_in (elsewhere_dead m b z.block ne)) ∙ h))
          (cases_eq z.block b);
      apart = λ j l z w f g ne unfreed unfreed' start' start'' same h. ⊎_elim
          (λ p. not_false z p.1 unfreed)
          (λ p. ⊎_elim (λ q. not_false w q.1 unfreed')
          (λ q. a.apart j l z w p.0 q.0 ne unfreed unfreed' start' start'' same
          (sym (ap is_heap_in (elsewhere_dead m b z.block (others_apart j z p.0 p.1 unfreed start'))) ∙ h))
          (set_cases xs i l now w g)) (set_cases xs i j now z f);
      unfreed = λ j z f sleeps. ⊎_elim
          (λ p. absurd (false≢true (sym awake ∙ sym (ap (λ (w : Instance). is_suspended w.status) p.1) ∙ sleeps)))
          (λ p. a.unfreed j z p.0 sleeps) (set_cases xs i j now z f);
      slots = λ j z f. now_or (λ (w : Instance). Each (λ (slot : Slot). IsNoHeap k slot.block) w.slots) j z f
          (slots_dead m b x.slots (a.slots i x e)) (λ f' ne. slots_dead m b z.slots (a.slots j z f'));
    }
