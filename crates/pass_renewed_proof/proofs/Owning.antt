-- The instance of the topmost activation, and that of a frame address, are found in both runs.
use Rattle.std.proofs.Common.{◌≡◌, ℕ, zero, suc, ◌+◌, Bool, true, false, List, [], ◌∷◌, Option, Some, None, refl}
use Rattle.std.proofs.Common.{sym, ap, ◌∙◌, subst, arith, if◌then◌else◌, ◌&&◌, ◌==◌}
use Rattle.std.proofs.lemmas.Bool.{false≢true}
use Rattle.std.specs.Prelude.{option_and_then, option_map, slice_get}
use Rattle.pass_kept_proof.specs.ir_model.declared.module.Module.{Module}
use Rattle.run_laws.specs.embedded.Making.{whole_home}
use Rattle.run_laws.specs.memory.Pointers.{Home, IsValue, home_of}
use Rattle.pass_kept_proof.specs.run_memory.Pointers.{moved, offset_of}
use Rattle.pass_kept_proof.specs.run_memory.declared.block.MemoryBlock.{MemoryBlock}
use Rattle.pass_kept_proof.specs.run_memory.declared.pointer.Offset.{Offset}
use Rattle.pass_kept_proof.specs.run_memory.declared.pointer.Pointer.{Pointer}
use Rattle.pass_kept_proof.specs.run_memory.declared.pointer.Value.{Value}
use Rattle.pass_kept_proof.specs.run_source.Source.{frame_address}
use Rattle.pass_kept_proof.specs.run_source.State.{address_in, began_at, instance_at, last_from, last_where, numbered}
use Rattle.pass_kept_proof.specs.run_source.State.{or_else, own_instance}
use Rattle.pass_kept_proof.specs.run_source.declared.state.Activation.{Activation}
use Rattle.pass_kept_proof.specs.run_source.declared.state.Instance.{Instance}
use Rattle.pass_kept_proof.specs.run_source.declared.state.State.{State}
use Rattle.pass_renewed_proof.proofs.Listing.{instance_beside}
use Rattle.pass_renewed_proof.specs.Beside.{AreInstancesBeside, IsBeside, IsInstanceBeside}
use Rattle.pass_renewed_proof.specs.Found.{AreFound}
use Rattle.pass_renewed_proof.specs.Ledger.{AreEntered, Ledger, Seen}
use Rattle.pass_renewed_proof.specs.Renewed.{Flags, Roots}

module _ (m : Module) (flags : Flags) (roots : Roots) (l : Ledger) (memory target : List MemoryBlock) where
  -- ---- by number

  none_beside : (i : ℕ) (xs ys : List Instance) (j : ℕ) → AreInstancesBeside m flags roots l memory i xs ys
      → slice_get xs j ≡ None → slice_get ys j ≡ None
  none_beside i [] [] j h e = refl
  none_beside i [] (y ∷ ys) j h e = absurd h
  none_beside i (x ∷ xs) [] j h e = refl
  none_beside i (x ∷ xs) (y ∷ ys) zero h e = absurd (cc)
  none_beside i (x ∷ xs) (y ∷ ys) (suc j) h e = none_beside (i + 1) xs ys j h.1 e

  numbered_beside : (xs ys : List Instance) (j : ℕ) → AreInstancesBeside m flags roots l memory 0 xs ys
      → AreFound m flags roots l memory (numbered xs j) (numbered ys j)
  numbered_beside xs ys j h = on (slice_get xs j) refl
    where
      number : 0 + j ≡ j
      number = omega arith

      on : (o : Option Instance) → slice_get xs j ≡ o
          → AreFound m flags roots l memory (option_map (λ x. (j, x)) (slice_get xs j)) (numbered ys j)
      on None e = subst (λ z. AreFound m flags roots l memory (option_map (λ x. (j, x)) z) (numbered ys j)) (sym e) (ap
          (option_map (λ y. (j, y))) (none_beside 0 xs ys j h e))
      on (Some x) e =
          let r = instance_beside m flags roots l memory 0 xs ys j x h e in
          subst (λ z. AreFound m flags roots l memory (option_map (λ x. (j, x)) z) (numbered ys j)) (sym e) (
            r.0,
            ap (option_map (λ y. (j, y))) r.1,
            subst (λ n. IsInstanceBeside m flags roots l memory n x r.0) number r.2,
          )

  -- ---- the last one that passes a test

  same_last : (test other : Instance → Bool) → ((i : ℕ) (x y : Instance)
      → IsInstanceBeside m flags roots l memory i x y → other y ≡ test x) → (i k : ℕ) (xs ys : List Instance)
      → AreInstancesBeside m flags roots l memory i xs ys → last_from other k ys ≡ last_from test k xs
  same_last test other same i k [] [] h = refl
  same_last test other same i k [] (y ∷ ys) h = absurd h
  same_last test other same i k (x ∷ xs) [] h = absurd h
  same_last test other same i k (x ∷ xs) (y ∷ ys) h =
      ap (λ o. or_else o (if other y then Some k else None)) (same_last test other same (i + 1) (suc k) xs ys h.1)
      ∙ ap (λ t. or_else (last_from test (suc k) xs) (if t then Some k else None)) (same i x y h.0)

  -- ---- those that began in a block

  module _ (e : AreEntered m l memory target) (b c : ℕ) (home : home_of l.homes b ≡ whole_home c) where
    block_same : (i : ℕ) (x y : Instance) → IsInstanceBeside m flags roots l memory i x y
        → (y.block == c) ≡ (x.block == b)
    block_same i x y h = on (x.block == b) refl (y.block == c) refl
      where
        is_eq : (n k : ℕ) → (n == k) ≡ true → n ≡ k
        is_eq n k q = grind arith

        eq_is : (n k : ℕ) → n ≡ k → (n == k) ≡ true
        eq_is n k q = grind arith

        y_block : y.block ≡ h.block
        y_block = ap (λ (z : Instance). z.block) h.is

        same_number : (n k : ℕ) → Some n ≡ Some k → n ≡ k
        same_number n k q = cc

        there : (n k : ℕ) → home_of l.homes n ≡ whole_home k → l.tenants k ≡ Some n
        there n k q = ap (λ (z : Home). l.tenants z.block) (sym q) ∙ e.alone n (Seen (ap (λ (z : Home). z.is_seen) q))

        on : (t : Bool) → (x.block == b) ≡ t → (u : Bool) → (y.block == c) ≡ u → (y.block == c) ≡ (x.block == b)
        on true et true eu = eu ∙ sym et
        on false et false eu = eu ∙ sym et
        on true et false eu =
            let xb = is_eq x.block b et in
            let yc : y.block ≡ c = y_block ∙ ap (λ (z : Home). z.block) (sym h.home ∙ ap (home_of l.homes) xb ∙ home) in
            absurd (false≢true (sym eu ∙ eq_is y.block c yc))
        on false et true eu =
            let yc : h.block ≡ c = sym y_block ∙ is_eq y.block c eu in
            let xb : x.block ≡ b = same_number x.block b (sym (there x.block h.block h.home) ∙ ap l.tenants yc
            ∙ there b c home) in
            absurd (false≢true (sym et ∙ eq_is x.block b xb))

    began_same : (i : ℕ) (x y : Instance) → IsInstanceBeside m flags roots l memory i x y
        → began_at c 0 y ≡ began_at b 0 x
    began_same i x y h = ap (λ t. t && (y.start == 0)) (block_same i x y h)
        ∙ ap (λ n. (x.block == b) && (n == 0)) (ap (λ (z : Instance). z.start) h.is)

-- what is found passes the test
pub passes : (test : Instance → Bool) (k : ℕ) (xs : List Instance) (j : ℕ) → last_from test k xs ≡ Some j
    → (n : ℕ) × (x : Instance) × (slice_get xs n ≡ Some x) × (test x ≡ true)
passes test k [] j e = absurd (cc)
passes test k (x ∷ xs) j e = on (λ i h. passes test (suc k) xs i h) (last_from test (suc k) xs) refl e
  where
    here : (t : Bool) → test x ≡ t → (if t then Some k else None) ≡ Some j
        → (n : ℕ) × (y : Instance) × (slice_get (x ∷ xs) n ≡ Some y) × (test y ≡ true)
    here true h q = (0, x, refl, h)
    here false h q = absurd (cc)

    on : ((i : ℕ) → last_from test (suc k) xs ≡ Some i → (n : ℕ) × (y : Instance) × (slice_get xs n ≡ Some y) × (test
        y ≡ true)) → (o : Option ℕ) → last_from test (suc k) xs ≡ o → or_else o (if test x then Some k else None) ≡ Some j
        → (n : ℕ) × (y : Instance) × (slice_get (x ∷ xs) n ≡ Some y) × (test y ≡ true)
    on later None h q = here (test x) refl q
    on later (Some i) h q = let r = later i h in (suc r.0, r.1, r.2, r.3)

-- ---- the states

module _ (m : Module) (flags : Flags) (roots : Roots) (s t : State) (beside : IsBeside m flags roots s t) where
  abbrev l : Ledger
  l = beside.ledger

  same_own : t.top.instance ≡ s.top.instance
  same_own = ap (λ (z : Activation). z.instance) beside.top.is

  pub own_beside : AreFound m flags roots beside.ledger s.world.memory (own_instance s) (own_instance t)
  own_beside = on s.top.instance refl
    where
      on : (o : Option ℕ) → s.top.instance ≡ o
          → AreFound m flags roots l s.world.memory (option_and_then (numbered s.instances) s.top.instance)
          (option_and_then (numbered t.instances) t.top.instance)
      on None e = subst (λ z. AreFound m flags roots l s.world.memory (option_and_then (numbered s.instances) z)
          (option_and_then (numbered t.instances) t.top.instance)) (sym e) (ap (option_and_then (numbered
          t.instances)) (same_own ∙ e))
      on (Some j) e = subst (λ z. AreFound m flags roots l s.world.memory (option_and_then (numbered s.instances) z)
          (option_and_then (numbered t.instances) t.top.instance)) (sym e) (subst (λ z. AreFound m flags roots l
          s.world.memory (numbered s.instances j) (option_and_then (numbered t.instances) z)) (sym (same_own ∙ e))
          (numbered_beside m flags roots l s.world.memory t.world.memory s.instances t.instances j beside.instances))

  pub address_of : (o q : Option (ℕ × Instance)) → AreFound m flags roots beside.ledger s.world.memory o q
      → IsValue beside.ledger.homes (frame_address o) (frame_address q)
  address_of None q h = tt
  address_of (Some p) q h =
      let home : home_of l.homes p.1.block ≡ whole_home h.2.block = h.2.home in
      let block : h.0.block ≡ h.2.block = ap (λ (z : Instance). z.block) h.2.is in
      let start : h.0.start ≡ 0 = ap (λ (z : Instance). z.start) h.2.is ∙ h.2.start in
      let first : address_in p.1.block 0 ≡ address_in p.1.block p.1.start = ap (address_in p.1.block) (sym h.2.start) in
      let second : address_in h.2.block 0 ≡ frame_address q = (λ k. address_in (sym block k) (sym start k)) ∙ ap
      frame_address (sym h.1) in
      subst (λ v. IsValue l.homes v (frame_address q)) first (subst (IsValue l.homes (address_in p.1.block 0)) second (
        ap (λ (z : Home). z.is_seen) home,
        ap (λ (z : Home). Value.Ptr (Pointer.At z.block (moved (offset_of 0) z.offset))) (sym home),
      ))

  pub own_address_stands : IsValue beside.ledger.homes (frame_address (own_instance s)) (frame_address (own_instance t))
  own_address_stands = address_of (own_instance s) (own_instance t) own_beside

  -- ---- by a frame address

  pub found_at : (b c : ℕ) → home_of beside.ledger.homes b ≡ whole_home c
      → AreFound m flags roots beside.ledger s.world.memory (last_where (began_at b 0) s.instances) (last_where (began_at
      c 0) t.instances)
  found_at b c home = on (last_from (began_at b 0) 0 s.instances) refl
    where
      same : last_from (began_at c 0) 0 t.instances ≡ last_from (began_at b 0) 0 s.instances
      same = same_last m flags roots l s.world.memory t.world.memory (began_at b 0) (began_at c 0) (began_same m flags
          roots l s.world.memory t.world.memory beside.entered b c home) 0 0 s.instances t.instances beside.instances

      on : (o : Option ℕ) → last_from (began_at b 0) 0 s.instances ≡ o
          → AreFound m flags roots l s.world.memory (last_where (began_at b 0) s.instances) (last_where (began_at c 0)
          t.instances)
      on None e = subst (λ z. AreFound m flags roots l s.world.memory (option_and_then (numbered s.instances) z)
          (last_where (began_at c 0) t.instances)) (sym e) (ap (option_and_then (numbered t.instances)) (same ∙ e))
      on (Some j) e = subst (λ z. AreFound m flags roots l s.world.memory (option_and_then (numbered s.instances) z)
          (last_where (began_at c 0) t.instances)) (sym e) (subst (λ z. AreFound m flags roots l s.world.memory
          (numbered s.instances j) (option_and_then (numbered t.instances) z)) (sym (same ∙ e)) (numbered_beside m flags
          roots l s.world.memory t.world.memory s.instances t.instances j beside.instances))

  -- an instance that began there is at the start of a block that stands from its start on
  begins_there : (b : ℕ) (o : Offset) (r : ℕ × Instance) → last_where (began_at b o.bits) s.instances ≡ Some r
      → (c : ℕ) × (home_of beside.ledger.homes b ≡ whole_home c) × (o.bits ≡ 0)
  begins_there b o r e = on (last_from (began_at b o.bits) 0 s.instances) refl
    where
      is_eq : (n k : ℕ) → (n == k) ≡ true → n ≡ k
      is_eq n k q = grind arith

      both_true : (p q : Bool) → (p && q) ≡ true → (p ≡ true) × (q ≡ true)
      both_true true true h = (refl, refl)
      both_true true false h = absurd (false≢true h)
      both_true false q h = absurd (false≢true h)

      on : (z : Option ℕ) → last_from (began_at b o.bits) 0 s.instances ≡ z
          → (c : ℕ) × (home_of l.homes b ≡ whole_home c) × (o.bits ≡ 0)
      on None h =
          let k : None ≡ Some r = ap (option_and_then (numbered s.instances)) (sym h) ∙ e in
          absurd (cc)
      on (Some j) h =
          let p = passes (began_at b o.bits) 0 s.instances j h in
          let y = instance_beside m flags roots l s.world.memory 0 s.instances t.instances p.0 p.1 beside.instances p.2 in
          let began = both_true (p.1.block == b) (p.1.start == o.bits) p.3 in (
            y.2.block,
            ap (home_of l.homes) (sym (is_eq p.1.block b began.0)) ∙ y.2.home,
            sym (is_eq p.1.start o.bits began.1) ∙ y.2.start,
          )

  pub found_beside : (p q : Value) → IsValue beside.ledger.homes p q → (r : ℕ × Instance)
      → instance_at s.instances p ≡ Some r
      → AreFound m flags roots beside.ledger s.world.memory (Some r) (instance_at t.instances q)
  found_beside Value.Poison q h r e = absurd (cc)
  found_beside (Value.Int n) q h r e = absurd (cc)
  found_beside (Value.Ptr Pointer.Null) q h r e = absurd (cc)
  found_beside (Value.Ptr (Pointer.Func g)) q h r e = absurd (cc)
  found_beside (Value.Ptr (Pointer.At b o)) q h r e =
      let there = begins_there b o r e in
      let at : Value.Ptr (Pointer.At there.0 (offset_of 0)) ≡ q = (λ k. Value.Ptr (Pointer.At (sym there.1 k).block
      (moved (record { bits = sym there.2 k }) (sym there.1 k).offset))) ∙ sym h.1 in
      subst (λ z. AreFound m flags roots l s.world.memory z (instance_at t.instances q)) (ap (λ n. last_where (began_at
      b n) s.instances) (sym there.2) ∙ e) (subst (λ z. AreFound m flags roots l s.world.memory (last_where (began_at b
      0) s.instances) (instance_at t.instances z)) at (found_at b there.0 there.1))
