-- Slots of a stack, by the allocas that gave them: how often they count, and where a room is found.
use Rattle.std.proofs.Common.{◌≡◌, inl, inr, ◌∙◌, ◌<◌, ◌≤◌, ℕ, List, [], ◌∷◌, length, ap, refl, sym, arith, ◌==◌}
use Rattle.pass_elide_lacks.specs.Rooms.{AreInRooms, HasNew, HasOwn, OwnsIn}
use Rattle.pass_elide_meaning.specs.pass_elide_runs.Slots.{HasSlotOf, IsSlotOf, NamesAllocas}
use Rattle.pass_elide_meaning.proofs.pass_elide_edges.pass_elide_proof.pass_proofs.ir_laws.facts.Truth.{itself}
use Rattle.pass_elide_meaning.specs.pass_elide_edges.pass_elide_proof.Elision.{Elision, function_in}
use Rattle.pass_elide_meaning.specs.pass_elide_edges.pass_elide_proof.pass_proofs.ir_model.declared.module.Function.{Function}
use Rattle.pass_elide_meaning.specs.pass_elide_edges.pass_elide_proof.pass_proofs.run_laws.changed.Changed.{Each}
use Rattle.pass_elide_meaning.specs.pass_elide_edges.pass_elide_proof.pass_proofs.run_memory.declared.pointer.Value.{Value}
use Rattle.pass_elide_meaning.specs.pass_elide_edges.pass_elide_proof.pass_proofs.run_source.declared.state.Activation.{Activation}
use Rattle.pass_elide_meaning.specs.pass_elide_edges.pass_elide_proof.pass_proofs.run_source.declared.state.Mode.{Mode}
use Rattle.pass_elide_meaning.specs.pass_elide_edges.pass_elide_proof.pass_proofs.run_step.Values.{Env, pointer_to, value_in}
use Rattle.pass_elide_meaning.specs.pass_elide_edges.pass_elide_proof.pass_proofs.run_step.declared.world.Slot.{Slot}
use Rattle.run_slots.specs.Slots.{once_if, times, times_on}

-- ---- counts

one_if : (a n : ℕ) → a ≡ n → once_if (a == n) ≡ 1
one_if a n is = (λ j. once_if (is j == n)) ∙ ap once_if (itself n)

own_counts : (low : ℕ) (zs : List Slot) (n : ℕ) → HasOwn low zs n → 1 ≤ times n zs
own_counts low [] n h = absurd h
own_counts low (z ∷ zs) n (inl k) = let one = one_if z.block n k.1 in omega (arith, one)
own_counts low (z ∷ zs) n (inr h) = let rest = own_counts low zs n h in omega (arith, rest)

new_counts : (low : ℕ) (zs : List Slot) (n : ℕ) → HasNew low zs n → 1 ≤ times n zs
new_counts low [] n h = absurd h
new_counts low (z ∷ zs) n (inl k) = let one = one_if z.block n k.1 in omega (arith, one)
new_counts low (z ∷ zs) n (inr h) = let rest = new_counts low zs n h in omega (arith, rest)

both_count : (low : ℕ) (zs : List Slot) (n : ℕ) → HasOwn low zs n → HasNew low zs n → 2 ≤ times n zs
both_count low [] n h k = absurd h
both_count low (z ∷ zs) n (inl h) (inl k) = let lt = h.0 in let le = k.0 in absurd (omega (arith, lt, le))
both_count low (z ∷ zs) n (inl h) (inr k) =
    let one = one_if z.block n h.1 in let rest = new_counts low zs n k in omega (arith, one, rest)
both_count low (z ∷ zs) n (inr h) (inl k) =
    let one = one_if z.block n k.1 in let rest = own_counts low zs n h in omega (arith, one, rest)
both_count low (z ∷ zs) n (inr h) (inr k) = let rest = both_count low zs n h k in omega (arith, rest)

-- ---- the slot of a name

pub record IsFoundSlot (low : ℕ) (values : Env) (zs : List Slot) (name : ℕ) : Type 0 where
  pub block : ℕ
  pub address : value_in values name ≡ pointer_to block
  pub new : low ≤ name → HasNew low zs block
  pub own : name < low → HasOwn low zs block

pub found_slot : (f : Function) (low : ℕ) (values : Env) (block at name : ℕ) (zs : List Slot) → NamesAllocas f
    → Each (IsSlotOf f values block at) zs → HasSlotOf zs name → IsFoundSlot low values zs name
found_slot f low values block at name [] names all h = absurd h
found_slot f low values block at name (z ∷ zs) names all (inl is) = record {
  block = z.block;
  address = ap (value_in values) (sym is) ∙ all.0.address names;
  new = λ le. inl (omega (arith, le, is), refl);
  own = λ lt. inl (omega (arith, lt, is), refl);
}
found_slot f low values block at name (z ∷ zs) names all (inr h) =
    let rest = found_slot f low values block at name zs names all.1 h in
    record {
      block = rest.block;
      address = rest.address;
      new = λ le. inr (rest.new le);
      own = λ lt. inr (rest.own lt);
    }

-- ---- stacks

module _ (e : Elision) where
  pub owns_count : (rows : List Activation) (n : ℕ) → OwnsIn e rows n → 1 ≤ times_on rows n
  owns_count [] n h = absurd h
  owns_count (a ∷ rows) n (inl h) =
      let one = own_counts (length (function_in e a.func).names) a.slots n h in omega (arith, one)
  owns_count (a ∷ rows) n (inr h) = let rest = owns_count rows n h in omega (arith, rest)

  -- a block that is a room of the second activation is no slot of the framed form
  pub room_alone : (a b : Activation) (rest : List Activation) (n : ℕ) → times_on (a ∷ (b ∷ rest)) n ≤ 1
      → HasNew (length (function_in e b.func).names) b.slots n → OwnsIn e (a ∷ (b ∷ rest)) n → ⊥
  room_alone a b rest n once new (inl h) =
      let one = own_counts (length (function_in e a.func).names) a.slots n h in
      let two = new_counts (length (function_in e b.func).names) b.slots n new in
      absurd (omega (arith, once, one, two))
  room_alone a b rest n once new (inr (inl h)) =
      let both = both_count (length (function_in e b.func).names) b.slots n h new in
      absurd (omega (arith, once, both))
  room_alone a b rest n once new (inr (inr h)) =
      let one = owns_count rest n h in
      let two = new_counts (length (function_in e b.func).names) b.slots n new in
      absurd (omega (arith, once, one, two))

  -- ---- rooms of a stack

  -- with another activation on top, which was given no other frame
  pub top_rooms : (a c : Activation) (below : List Activation)
      → ((frame : Value) → c.mode ≡ Mode.GivenRamp frame → a.mode ≡ Mode.GivenRamp frame)
      → AreInRooms e (a ∷ below) → AreInRooms e (c ∷ below)
  top_rooms a c [] same h = λ frame is. h frame (same frame is)
  top_rooms a c (b ∷ below) same h = ((λ frame is. h.0 frame (same frame is)), h.1)

  -- without the topmost one
  pub rest_rooms : (a b : Activation) (below : List Activation) → AreInRooms e (a ∷ (b ∷ below))
      → AreInRooms e (b ∷ below)
  rest_rooms a b below h = h.1
