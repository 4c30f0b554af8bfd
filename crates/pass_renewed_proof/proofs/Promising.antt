-- A promise leads to a frame address, and back, in both runs.
use Rattle.std.proofs.Common.{◌≡◌, ℕ, ◌+◌, ◌%◌, ◌^◌, Bool, true, false, not, List, [], ◌∷◌}
use Rattle.std.proofs.Common.{Option, Some, None, Result, Ok, Err, refl, sym, ap, ◌∙◌, subst, ◌||◌, ◌==◌}
use Rattle.std.proofs.Common.{arith, if◌then◌else◌}
use Rattle.std.proofs.lemmas.Bool.{eqb-true, false≢true}
use Rattle.std.specs.Option.{option_map_or}
use Rattle.std.specs.Prelude.{IsTrue, cond, find, option_and_then, option_map, option_to_list, slice_get}
use Rattle.pass_kept_proof.proofs.Same.{or_left}
use Rattle.pass_kept_proof.specs.ir_base.declared.cause.Cause.{Cause}
use Rattle.pass_kept_proof.specs.ir_model.Names.{function_at}
use Rattle.pass_kept_proof.specs.ir_model.declared.instr.Instr.{Instr}
use Rattle.pass_kept_proof.specs.ir_model.declared.module.Module.{Module}
use Rattle.pass_kept_proof.specs.ir_model.declared.operand.Operand.{Operand}
use Rattle.pass_kept_proof.specs.ir_paths.Slots.{has_name, promise_of}
use Rattle.frame_classes.specs.Classes.{Promise}
use Rattle.run_laws.proofs.memory.Written.{same_some}
use Rattle.run_laws.specs.embedded.Making.{whole_home}
use Rattle.run_laws.specs.memory.Pointers.{Home, IsValue, home_of}
use Rattle.pass_kept_proof.specs.run_memory.Memory.{is_live}
use Rattle.pass_kept_proof.specs.run_memory.Pointers.{moved, offset_of}
use Rattle.pass_kept_proof.specs.run_memory.declared.block.MemoryBlock.{MemoryBlock}
use Rattle.pass_kept_proof.specs.run_memory.declared.pointer.Offset.{Offset}
use Rattle.pass_kept_proof.specs.run_memory.declared.pointer.Pointer.{Pointer}
use Rattle.pass_kept_proof.specs.run_memory.declared.pointer.Value.{Value}
use Rattle.pass_kept_proof.specs.run_source.Source.{block_of_slot, frame_of_promise, has_promise_at, is_live_at, is_over, promise}
use Rattle.pass_kept_proof.specs.run_source.Source.{promise_block, promise_of_frame}
use Rattle.pass_kept_proof.specs.run_source.State.{frame_address_of, gives, instance_at, is_finished}
use Rattle.pass_kept_proof.specs.run_source.declared.state.Instance.{Instance}
use Rattle.pass_kept_proof.specs.run_source.declared.state.State.{State}
use Rattle.pass_kept_proof.specs.run_source.declared.state.Status.{Status}
use Rattle.pass_kept_proof.specs.run_source_tables.Given.{Given, is_true}
use Rattle.pass_kept_proof.specs.run_step.Results.{and_then, found, ok_if}
use Rattle.pass_kept_proof.specs.run_step.Values.{pointer_to}
use Rattle.pass_kept_proof.specs.run_step.declared.world.Slot.{Slot}
use Rattle.pass_renewed_proof.proofs.Anew.{present_block}
use Rattle.pass_renewed_proof.proofs.Giving.{gives_beside}
use Rattle.pass_renewed_proof.proofs.Owning.{address_of, found_beside}
use Rattle.pass_renewed_proof.specs.Beside.{AreInstancesBeside, AreSlots, Both, First, IsBeside, IsInstanceBeside}
use Rattle.pass_renewed_proof.specs.Beside.{IsStatusBeside, NoSlots, Second}
use Rattle.pass_renewed_proof.specs.Ledger.{Ledger, Seen}
use Rattle.pass_renewed_proof.specs.Making.{IsGiving}
use Rattle.pass_renewed_proof.specs.Renewed.{Flags, Roots}
use Rattle.pass_renewed_proof.specs.SlotRules.{KeepsSlots}

-- ---- a slot that both list

-- the block of an alloca that isn't made anew, in both lists
abbrev pub BothHave : Ledger → Option ℕ → Option ℕ → Type 0
BothHave l None o = o ≡ None
BothHave l (Some b) o = (c : ℕ) × (o ≡ Some c) × (home_of l.homes b ≡ whole_home c) × (l.seats b ≡ None)

is_eq : (n k : ℕ) → (n == k) ≡ true → n ≡ k
is_eq n k e = grind arith

eq_is : (n k : ℕ) → n ≡ k → (n == k) ≡ true
eq_is n k e = grind arith

listed_block : (l : Ledger) (S : Slot → Type 0) (flags : ℕ → Bool) → ((slot : Slot) → S slot → IsTrue (flags
    slot.alloca)) → (a : ℕ) → flags a ≡ false → (ss ts : List Slot) → AreSlots l S (λ t. ⊥) flags ss ts → BothHave l
    (block_of_slot ss a) (block_of_slot ts a)
listed_block l S flags flagged a off _ _ NoSlots = refl
listed_block l S flags flagged a off _ _ (Both al b c ss ts unflagged home none rest) = on (listed_block l S flags
    flagged a off ss ts rest) (al == a)
  where
    on : BothHave l (block_of_slot ss a) (block_of_slot ts a) → (u : Bool) → BothHave l (option_map (λ (slot : Slot).
        slot.block) (cond u (Some (record { alloca = al; block = b })) (find (λ (slot : Slot). slot.alloca == a) ss)))
        (option_map (λ (slot : Slot). slot.block) (cond u (Some (record { alloca = al; block = c })) (find (λ (slot :
        Slot). slot.alloca == a) ts)))
    on later true = (c, refl, home, none)
    on later false = later
listed_block l S flags flagged a off _ ts (First s ss _ is rest) = subst (λ u. BothHave l (option_map (λ (slot : Slot).
    slot.block) (cond u (Some s) (find (λ (slot : Slot). slot.alloca == a) ss))) (block_of_slot ts a)) (sym (other
    (s.alloca == a) refl)) (listed_block l S flags flagged a off ss ts rest)
  where
    other : (u : Bool) → (s.alloca == a) ≡ u → (s.alloca == a) ≡ false
    other true e = absurd (false≢true (sym off ∙ ap flags (sym (is_eq s.alloca a e)) ∙ flagged s is))
    other false e = e
listed_block l S flags flagged a off ss _ (Second t _ ts is rest) = absurd is

-- ---- the states

module _ (m : Module) (flags : Flags) (roots : Roots) (keeps : (func : ℕ)
    → KeepsSlots m (function_at m func) (flags func) (roots func)) (s t : State) (beside : IsBeside m flags roots s t)
    (g h : Given) (code : g.code ≡ m) (code' : h.code ≡ m) where
  abbrev l : Ledger
  l = beside.ledger

  -- a promise isn't made anew
  pub promise_off : (func a : ℕ) → promise_of (function_at m func) ≡ Some a → flags func a ≡ false
  promise_off func a e = on (flags func a) refl
    where
      named : has_name (option_to_list (promise_of (function_at m func))) a ≡ true
      named = ap (λ o. has_name (option_to_list o) a) e ∙ or_left (a == a) false (eq_is a a refl)

      on : (u : Bool) → flags func a ≡ u → flags func a ≡ false
      on true f = absurd (((keeps func).is_local a f).1 (Promise named))
      on false f = f

  pub instance_promise : (n : ℕ) (x y : Instance) → IsInstanceBeside m flags roots beside.ledger s.world.memory n x y
      → BothHave beside.ledger (promise_block g x) (promise_block h y)
  instance_promise n x y b = on (promise_of (function_at m x.coroutine)) refl
    where
      first : promise_block g x ≡ option_and_then (block_of_slot x.slots) (promise_of (function_at m x.coroutine))
      first = ap (λ c. option_and_then (block_of_slot x.slots) (promise_of (function_at c x.coroutine))) code

      second : promise_block h y ≡ option_and_then (block_of_slot b.slots) (promise_of (function_at m x.coroutine))
      second = ap (λ (z : Instance). option_and_then (block_of_slot z.slots) (promise_of (function_at h.code
          z.coroutine))) b.is ∙ ap (λ c. option_and_then (block_of_slot b.slots) (promise_of (function_at c
          x.coroutine))) code'

      both : (o : Option ℕ) → promise_of (function_at m x.coroutine) ≡ o → BothHave l (option_and_then (block_of_slot
          x.slots) o) (option_and_then (block_of_slot b.slots) o)
      both None e = refl
      both (Some a) e = listed_block l _ (flags x.coroutine) (λ slot is. is.flagged) a (promise_off x.coroutine a e)
          x.slots b.slots b.listed

      on : (o : Option ℕ) → promise_of (function_at m x.coroutine) ≡ o
          → BothHave l (promise_block g x) (promise_block h y)
      on o e = subst (λ (z : Option ℕ × Option ℕ). BothHave l z.0 z.1) (λ j. (sym first j, sym second j)) (both
          (promise_of (function_at m x.coroutine)) refl)

  pub over_same : (n : ℕ) (x y : Instance) → IsInstanceBeside m flags roots beside.ledger s.world.memory n x y → is_over y ≡
      is_over x
  over_same n x y b = ap is_over b.is ∙ ap (λ u. u || x.freed) (same x.status b.status b.statuses)
    where
      same : (p q : Status) → IsStatusBeside m flags roots beside.ledger s.world.memory x p q → is_finished q ≡
          is_finished p
      same Status.Running q k = ap is_finished k
      same (Status.Suspended u env) q k = ap is_finished k.1
      same Status.Finished q k = ap is_finished k

  abbrev Gives : Value → Result Value Cause → Type 0
  Gives v r = (w : Value) × (r ≡ Ok w) × IsValue beside.ledger.homes v w

  same_ok : {a b : Value} → ◌≡◌ {A = Result Value Cause} (Ok a) (Ok b) → a ≡ b
  same_ok q = cc

  -- ---- from a frame address to the promise

  abbrev look : Given → Instance → Result Value Cause
  look z x = and_then (found Cause.Promise (promise_block z x)) (λ b. ok_if (not (is_over x)) Cause.Dead (pointer_to b))

  looked : (n : ℕ) (x y : Instance) → IsInstanceBeside m flags roots beside.ledger s.world.memory n x y → (v : Value)
      → look g x ≡ Ok v → Gives v (look h y)
  looked n x y b v e = on (promise_block g x) refl (instance_promise n x y b) (is_over x) refl e
    where
      on : (o : Option ℕ) → promise_block g x ≡ o → BothHave l (promise_block g x) (promise_block h y) → (u : Bool)
          → is_over x ≡ u → look g x ≡ Ok v → Gives v (look h y)
      on None is both u over k = let c : Err Cause.Promise ≡ Ok v = ap (λ o. and_then (found Cause.Promise o) (λ b.
          ok_if (not (is_over x)) Cause.Dead (pointer_to b))) (sym is) ∙ k in absurd (cc)
      on (Some d) is both true over k = let c : Err Cause.Dead ≡ Ok v = (λ j. and_then (found Cause.Promise (sym is j))
          (λ b. ok_if (not (sym over j)) Cause.Dead (pointer_to b))) ∙ k in absurd (cc)
      on (Some d) is both false over k =
          let r = subst (λ o. BothHave l o (promise_block h y)) is both in
          let v_is : pointer_to d ≡ v = same_ok ((λ j. and_then (found Cause.Promise (sym is j)) (λ b. ok_if (not (sym
          over j)) Cause.Dead (pointer_to b))) ∙ k) in (
            pointer_to r.0,
            (λ j. and_then (found Cause.Promise (r.1 j)) (λ d. ok_if (not ((over_same n x y b ∙ over) j)) Cause.Dead
                (pointer_to d))),
            subst (λ z. IsValue l.homes z (pointer_to r.0)) v_is (
              ap (λ (q : Home). q.is_seen) r.2,
              ap (λ (q : Home). Value.Ptr (Pointer.At q.block (moved (offset_of 0) q.offset))) (sym r.2),
            ),
          )

  pub promise_there : (p q : Value) → IsValue beside.ledger.homes p q → (v : Value) → promise_of_frame g s p ≡ Ok v
      → Gives v (promise_of_frame h t q)
  promise_there p q k v e = on (instance_at s.instances p) refl e
    where
      on : (o : Option (ℕ × Instance)) → instance_at s.instances p ≡ o → and_then (found Cause.Frame o) (λ (i, x). look
          g x) ≡ Ok v → Gives v (promise_of_frame h t q)
      on None none z = absurd (cc)
      on (Some r) at z =
          let f = found_beside m flags roots s t beside p q k r at in
          subst (λ o. Gives v (and_then (found Cause.Frame o) (λ (i, x). look h x))) (sym f.1) (looked r.0 r.1 f.0 f.2
          v z)

  -- ---- from the promise to a frame address

  -- the first one that passes a test
  found_first : (test other : Instance → Bool) → ((n : ℕ) (x y : Instance) → IsInstanceBeside m flags roots
      beside.ledger s.world.memory n x y → other y ≡ test x) → (i : ℕ) (xs ys : List Instance)
      → AreInstancesBeside m flags roots beside.ledger s.world.memory i xs ys → (x : Instance) → find test xs ≡ Some x
      → (n : ℕ) × (y : Instance) × (find other ys ≡ Some y) × (test x ≡ true) × IsInstanceBeside m flags roots
      beside.ledger s.world.memory n x y
  found_first test other same i [] [] h x e = absurd (cc)
  found_first test other same i [] (y ∷ ys) h x e = absurd h
  found_first test other same i (z ∷ xs) [] h x e = absurd h
  found_first test other same i (z ∷ xs) (y ∷ ys) h x e = on (found_first test other same (i + 1) xs ys h.1 x) (test z)
      refl e
    where
      Found : Option Instance → Type 0
      Found o = (n : ℕ) × (w : Instance) × (o ≡ Some w) × (test x ≡ true) × IsInstanceBeside m flags roots beside.ledger
          s.world.memory n x w

      on : (find test xs ≡ Some x → Found (find other ys)) → (u : Bool) → test z ≡ u → cond u (Some z) (find test xs) ≡
          Some x → Found (cond (other y) (Some y) (find other ys))
      on later true t' k =
          let is : z ≡ x = same_some z x k in (
            i,
            y,
            ap (λ u. cond u (Some y) (find other ys)) (same i z y h.0 ∙ t'),
            ap test (sym is) ∙ t',
            subst (λ w. IsInstanceBeside m flags roots l s.world.memory i w y) is h.0,
          )
      on later false t' k = subst (λ u. Found (cond u (Some y) (find other ys))) (sym (same i z y h.0 ∙ t')) (later k)

  -- the promises of two instances lie in two blocks
  module _ (b c : ℕ) (home : home_of beside.ledger.homes b ≡ whole_home c) where
    same_number : {i j : ℕ} → Some i ≡ Some j → i ≡ j
    same_number q = cc

    tenant : (d e : ℕ) → home_of beside.ledger.homes d ≡ whole_home e → beside.ledger.tenants e ≡ Some d
    tenant d e h = ap (λ (q : Home). beside.ledger.tenants q.block) (sym h) ∙ beside.entered.alone d (Seen (ap (λ (q :
        Home). q.is_seen) h))

    block_same : (d e : ℕ) → home_of beside.ledger.homes d ≡ whole_home e → (c == e) ≡ (b == d)
    block_same d e h = on (b == d) refl (c == e) refl
      where
        on : (u : Bool) → (b == d) ≡ u → (w : Bool) → (c == e) ≡ w → (c == e) ≡ (b == d)
        on true eu true ew = ew ∙ sym eu
        on false eu false ew = ew ∙ sym eu
        on true eu false ew =
            let is : c ≡ e = ap (λ (q : Home). q.block) (sym home ∙ ap (home_of l.homes) (is_eq b d eu) ∙ h) in
            absurd (false≢true (sym ew ∙ eq_is c e is))
        on false eu true ew =
            let is : b ≡ d = same_number (sym (tenant b c home) ∙ ap l.tenants (is_eq c e ew) ∙ tenant d e h) in
            absurd (false≢true (sym eu ∙ eq_is b d is))

    promise_same : (n : ℕ) (x y : Instance) → IsInstanceBeside m flags roots beside.ledger s.world.memory n x y
        → has_promise_at h c y ≡ has_promise_at g b x
    promise_same n x y k = on (promise_block g x) (promise_block h y) (instance_promise n x y k)
      where
        on : (o q : Option ℕ) → BothHave l o q
            → option_map_or (λ d. c == d) q false ≡ option_map_or (λ d. b == d) o false
        on None q f = ap (λ z. option_map_or (λ d. c == d) z false) f
        on (Some d) q f = ap (λ z. option_map_or (λ d. c == d) z false) f.1 ∙ block_same d f.0 f.2

  -- one that is found is beside another one
  found_some : (test : Instance → Bool) (i : ℕ) (xs ys : List Instance)
      → AreInstancesBeside m flags roots beside.ledger s.world.memory i xs ys → (x : Instance) → find test xs ≡ Some x
      → (n : ℕ) × (y : Instance) × (test x ≡ true) × IsInstanceBeside m flags roots beside.ledger s.world.memory n x y
  found_some test i [] ys h x e = absurd (cc)
  found_some test i (z ∷ xs) [] h x e = absurd h
  found_some test i (z ∷ xs) (y ∷ ys) h x e = on (found_some test (i + 1) xs ys h.1 x) (test z) refl e
    where
      Some_of : Type 0
      Some_of = (n : ℕ) × (w : Instance) × (test x ≡ true) × IsInstanceBeside m flags roots beside.ledger
          s.world.memory n x w

      on : (find test xs ≡ Some x → Some_of) → (u : Bool) → test z ≡ u → cond u (Some z) (find test xs) ≡ Some x
          → Some_of
      on later true t' k =
          let is : z ≡ x = same_some z x k in (
            i,
            y,
            ap test (sym is) ∙ t',
            subst (λ w. IsInstanceBeside m flags roots l s.world.memory i w y) is h.0,
          )
      on later false t' k = later k

  -- where it has a promise in the block, the block stands in its own one
  home_there : (b : ℕ) (x : Instance) → has_promise_at g b x ≡ true → (n : ℕ) (y : Instance)
      → IsInstanceBeside m flags roots beside.ledger s.world.memory n x y
      → (c : ℕ) × (home_of beside.ledger.homes b ≡ whole_home c) × (beside.ledger.seats b ≡ None)
  home_there b x e n y k = on (promise_block g x) (promise_block h y) (instance_promise n x y k) e
    where
      on : (o q : Option ℕ) → BothHave l o q → option_map_or (λ d. b == d) o false ≡ true
          → (c : ℕ) × (home_of l.homes b ≡ whole_home c) × (l.seats b ≡ None)
      on None q f z = absurd (false≢true z)
      on (Some d) q f z =
          let is = is_eq b d z in (f.0, ap (home_of l.homes) is ∙ f.2, ap l.seats is ∙ f.3)

  -- it lives in both
  live_there : (b c : ℕ) → home_of beside.ledger.homes b ≡ whole_home c → beside.ledger.seats b ≡ None
      → is_live_at s.world.memory b ≡ true → is_live_at t.world.memory c ≡ true
  live_there b c home none live =
      let there = present_block l s.world.memory beside.entered.known b (ap (λ (q : Home). q.is_seen) home) in
      let mate = beside.entered.mates b there.0 none there.1 in
      let block : mate.block ≡ c = ap (λ (q : Home). q.block) (sym mate.home ∙ home) in
      ap (λ o. option_map_or (λ (x : MemoryBlock). is_live x.life) o false) (ap (slice_get t.world.memory) (sym block)
      ∙ mate.there) ∙ ap (λ o. option_map_or (λ (x : MemoryBlock). is_live x.life) o false) (sym there.1) ∙ live

  abbrev back : Given → State → ℕ → Bool → Result Value Cause
  back z u b start = and_then (found Cause.Promise (if start then find (has_promise_at z b) u.instances else None))
      (λ x. ok_if (is_live_at u.world.memory b) Cause.Promise (frame_address_of x))

  frame_there : (b : ℕ) (o : Offset) (q : Value) → IsValue beside.ledger.homes (Value.Ptr (Pointer.At b o)) q
      → (v : Value) → frame_of_promise g s (Value.Ptr (Pointer.At b o)) ≡ Ok v → Gives v (frame_of_promise h t q)
  frame_there b o q k v e = on (o.bits == 0) refl e
    where
      by_live : (x : Instance) → find (has_promise_at g b) s.instances ≡ Some x → (o.bits == 0) ≡ true → (u : Bool)
          → is_live_at s.world.memory b ≡ u → ok_if u Cause.Promise (frame_address_of x) ≡ Ok v → Gives v
          (frame_of_promise h t q)
      by_live x is start false live z = absurd (cc)
      by_live x is start true live z =
          let r = found_some (has_promise_at g b) 0 s.instances t.instances beside.instances x is in
          let at = home_there b x r.2 r.0 r.1 r.3 in
          let f = found_first (has_promise_at g b) (has_promise_at h at.0) (promise_same b at.0 at.1) 0 s.instances
          t.instances beside.instances x is in
          let q_is : q ≡ Value.Ptr (Pointer.At at.0 (moved o 0)) = k.1 ∙ ap (λ (w : Home). Value.Ptr (Pointer.At w.block
          (moved o w.offset))) at.1 in
          let first : frame_address_of x ≡ v = same_ok z in (
            frame_address_of f.1,
            ap (frame_of_promise h t) q_is
                ∙ ap (back h t at.0) (zero_moved o.bits start)
                ∙ (λ j. and_then (found Cause.Promise (f.2 j)) (λ x. ok_if (live_there b at.0 at.1 at.2 live j)
                Cause.Promise (frame_address_of x))),
            subst (λ w. IsValue l.homes w (frame_address_of f.1)) first (address_of m flags roots s t beside (Some (
              f.0,
              x,
            )) (Some (f.0, f.1)) (f.1, refl, f.4)),
          )
        where
          zero_moved : (n : ℕ) → (n == 0) ≡ true → ((n + 0) % 2 ^ 64 == 0) ≡ true
          zero_moved n e = subst (λ k. ((k + 0) % 2 ^ 64 == 0) ≡ true) (sym (eqb-true n 0 e)) refl

      by_found : (r : Option Instance) → find (has_promise_at g b) s.instances ≡ r → (o.bits == 0) ≡ true → and_then
          (found Cause.Promise r) (λ x. ok_if (is_live_at s.world.memory b) Cause.Promise (frame_address_of x)) ≡ Ok v
          → Gives v (frame_of_promise h t q)
      by_found None is start z = absurd (cc)
      by_found (Some x) is start z = by_live x is start (is_live_at s.world.memory b) refl z

      on : (u : Bool) → (o.bits == 0) ≡ u → back g s b u ≡ Ok v → Gives v (frame_of_promise h t q)
      on true start z = by_found (find (has_promise_at g b) s.instances) refl start z
      on false start z = absurd (cc)

  -- ---- either

  any_frame : (p q : Value) → IsValue beside.ledger.homes p q → (v : Value) → frame_of_promise g s p ≡ Ok v → Gives v
      (frame_of_promise h t q)
  any_frame (Value.Ptr (Pointer.At b o)) q k v e = frame_there b o q k v e
  any_frame (Value.Ptr Pointer.Null) q k v e = absurd (cc)
  any_frame (Value.Ptr (Pointer.Func f)) q k v e = absurd (cc)
  any_frame (Value.Int n) q k v e = absurd (cc)
  any_frame Value.Poison q k v e = absurd (cc)

  either : (u : Bool) (p q : Value) → IsValue beside.ledger.homes p q → (v : Value) → (if u then frame_of_promise g s p
      else promise_of_frame g s p) ≡ Ok v → Gives v (if u then frame_of_promise h t q else promise_of_frame h t q)
  either true p q k v e = any_frame p q k v e
  either false p q k v e = promise_there p q k v e

  pub promised_beside : (i : Instr) (result : Option ℕ) → IsGiving m roots s.top i result → (p q : Value)
      → IsValue beside.ledger.homes p q → (from : Operand) (v : Value) → promise g s p from ≡ Ok v
      → (w : Value) × (promise h t q from ≡ Ok w) × IsBeside m flags roots (gives s result v) (gives t result w)
  promised_beside i result giving p q k from v e =
      let r = either (is_true from) p q k v e in (
        r.0,
        r.1,
        gives_beside m flags roots keeps s t beside i result giving v r.0 r.2,
      )
