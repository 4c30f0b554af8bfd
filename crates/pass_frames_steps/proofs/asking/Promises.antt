-- A frame address leads to the promise in both runs, and the promise back to the frame.
use Rattle.std.proofs.Common.{◌≡◌, ◌+◌, ◌<◌, ◌≤◌, ◌^◌, ◌%◌, ◌&&◌, ◌||◌, ◌==◌, ◌∷◌, ◌∙◌, [], if◌then◌else◌, Bool, List, None, Ok, Option, Result, Some, ap, arith, false, length, not, refl, subst, suc, sym, true, zero, ℕ}
use Rattle.std.proofs.lemmas.Bool.{eq-eqb, eqb-true}
use Rattle.std.specs.List.{Contains}
use Rattle.std.specs.Option.{option_map_or}
use Rattle.std.specs.Prelude.{cond, find, option_and_then, option_map, slice_get}
use Rattle.pass_frames_code.specs.frame_contents.Held.{position_of}
use Rattle.pass_frames_code.specs.frame_layout.declared.layout.Layout.{Layout}
use Rattle.pass_frames_code.specs.frame_layout.declared.layout.PlacedField.{PlacedField}
use Rattle.pass_frames_code.specs.ir_base.declared.cause.Cause.{Cause}
use Rattle.pass_frames_code.proofs.ir_laws.facts.Lists.{get_within}
use Rattle.pass_frames_code.proofs.ir_laws.facts.Truth.{and_both, and_first}
use Rattle.pass_frames_code.specs.ir_model.Names.{function_at}
use Rattle.pass_frames_code.specs.ir_model.declared.operand.Operand.{Operand}
use Rattle.pass_frames_code.specs.ir_paths.Slots.{promise_of}
use Rattle.pass_frames_code.specs.pass_frames.Tables.{offset_at}
use Rattle.pass_frames_steps.proofs.asking.Found.{address_stands, instance_found, known_block}
use Rattle.pass_frames_code.proofs.followed.Assembly.{other_instance}
use Rattle.pass_frames_code.proofs.stepping.Rest.{got, seen_known}
use Rattle.pass_frames_code.specs.Asking.{AreInstancesPlaced, IsPromiseLaid}
use Rattle.pass_frames_code.specs.Places.{edged}
use Rattle.pass_frames_code.specs.Related.{AreBuiltOf, AreInstances, Building, IsStatus, is_coroutine}
use Rattle.pass_frames_code.specs.Stepping.{AreGiven}
use Rattle.pass_frames_code.proofs.pass_renewed_proof.Listing.{contains_first, contains_more}
use Rattle.pass_frames_code.specs.pass_renewed_proof.Renewed.{RenewedGiven}
use Rattle.pass_frames_code.specs.run_framed.Framed.{is_over as framed_over, address_behind, framed_frame_of_promise, framed_promise, framed_promise_of_frame, is_promise_at, is_promise_kind, layout_of, promise_offset}
use Rattle.pass_frames_code.proofs.run_laws.memory.Written.{same_some}
use Rattle.pass_frames_code.proofs.run_laws.transfer.Muted.{muted_length}
use Rattle.pass_frames_code.specs.run_laws.embedded.Making.{whole_home}
use Rattle.pass_frames_code.specs.run_laws.memory.Pointers.{Home, IsValue, home_of}
use Rattle.pass_frames_code.specs.run_laws.transfer.Muted.{muted}
use Rattle.pass_frames_code.specs.run_memory.Pointers.{moved, offset_of}
use Rattle.pass_frames_code.specs.run_memory.declared.pointer.Offset.{Offset}
use Rattle.pass_frames_code.specs.run_memory.declared.pointer.Pointer.{Pointer}
use Rattle.pass_frames_code.specs.run_memory.declared.pointer.Value.{Value}
use Rattle.pass_frames_code.specs.run_source.Source.{block_of_slot, frame_of_promise, has_promise_at, is_live_at, is_over, promise, promise_block, promise_of_frame}
use Rattle.pass_frames_code.specs.run_source.State.{frame_address_of, instance_at, is_finished, last_from, last_where, numbered, or_else}
use Rattle.pass_frames_code.specs.run_source.declared.state.Instance.{Instance}
use Rattle.pass_frames_code.specs.run_source.declared.state.State.{State}
use Rattle.pass_frames_code.specs.run_source.declared.state.Status.{Status}
use Rattle.pass_frames_code.specs.run_source_tables.Given.{is_true}
use Rattle.pass_frames_code.specs.run_step.Results.{and_then, found, ok_if}
use Rattle.pass_frames_code.specs.run_step.Values.{pointer_to}
use Rattle.pass_frames_code.specs.run_step.declared.world.Slot.{Slot}

-- ---- lists

find_there : {A : Type 0} (test : A → Bool) (xs : List A) (x : A) → find test xs ≡ Some x
    → (n : ℕ) × (slice_get xs n ≡ Some x) × (test x ≡ true) × Contains xs x
find_there test [] x e = absurd (cc)
find_there test (z ∷ xs) x e = on (find_there test xs x) (test z) refl e
  where
    Found : Type 0
    Found = (n : ℕ) × (slice_get (z ∷ xs) n ≡ Some x) × (test x ≡ true) × Contains (z ∷ xs) x

    on : (find test xs ≡ Some x → (n : ℕ) × (slice_get xs n ≡ Some x) × (test x ≡ true) × Contains xs x) → (u : Bool)
        → test z ≡ u → cond u (Some z) (find test xs) ≡ Some x → Found
    on later true d k =
        let is : z ≡ x = same_some z x k in (
          0,
          k,
          ap test (sym is) ∙ d,
          subst (Contains (z ∷ xs)) is (contains_first z xs),
        )
    on later false d k = let f = later k in (suc f.0, f.1, f.2, contains_more z xs x f.3)

-- no last one passes where none does, and the only one that does is the last
last_none : (test : Instance → Bool) (ys : List Instance)
    → ((j : ℕ) (z : Instance) → slice_get ys j ≡ Some z → test z ≡ false) → (k : ℕ) → last_from test k ys ≡ None
last_none test [] none k = refl
last_none test (z ∷ ys) none k =
    ap (λ (o : Option ℕ). or_else o (if test z then Some k else None))
    (last_none test ys (λ j w e. none (suc j) w e) (suc k))
    ∙ ap (λ (u : Bool). if u then Some k else None) (none 0 z refl)

last_only : (test : Instance → Bool) (ys : List Instance) (n : ℕ) (y : Instance) → slice_get ys n ≡ Some y
    → test y ≡ true → ((j : ℕ) (z : Instance) → slice_get ys j ≡ Some z → test z ≡ true → j ≡ n) → (k : ℕ)
    → last_from test k ys ≡ Some (k + n)
last_only test [] n y e passes only k = absurd (cc)
last_only test (z ∷ ys) zero y e passes only k =
    let is : z ≡ y = same_some z y e in
    let first : k ≡ k + 0 = omega arith in
    ap (λ (o : Option ℕ). or_else o (if test z then Some k else None)) (last_none test ys fails (suc k))
    ∙ ap (λ (u : Bool). if u then Some k else None) (ap test is ∙ passes)
    ∙ ap Some first
  where
    fails : (j : ℕ) (w : Instance) → slice_get ys j ≡ Some w → test w ≡ false
    fails j w d = on (test w) refl
      where
        on : (u : Bool) → test w ≡ u → test w ≡ false
        on false h = h
        on true h = let no : suc j ≡ zero = only (suc j) w d h in absurd (omega (arith, no))
last_only test (z ∷ ys) (suc n) y e passes only k =
    let next : suc k + n ≡ k + suc n = omega arith in
    ap (λ (o : Option ℕ). or_else o (if test z then Some k else None))
    (last_only test ys n y e passes (λ j w d h. down (only (suc j) w d h)) (suc k))
    ∙ ap Some next
  where
    down : {a c : ℕ} → suc a ≡ suc c → a ≡ c
    down h = omega (arith, h)

-- ---- the states

module _ (b : Building) (g : RenewedGiven) (given : AreGiven b g) (s t : State) (r : AreBuiltOf b s t)
    (placed : AreInstancesPlaced s)
    (laid : (func : ℕ) → is_coroutine b func ≡ true → IsPromiseLaid (b.framing func)) where
  -- where the promise of an instance stands, and its slot
  record IsPromiseAt (x y : Instance) (d : ℕ) : Type 0 where
    slot : Slot
    listed : Contains x.slots slot
    block : slot.block ≡ d
    offset : ℕ
    field : promise_offset b.given y ≡ Some offset
    home : home_of r.homes d ≡ record { block = y.block; offset = y.start + offset; is_seen = true }

  promise_at : (x y : Instance) (d : ℕ) → AreInstances b r.homes t x y → promise_block g.given x ≡ Some d
      → IsPromiseAt x y d
  promise_at x y d h e =
      on (promise_of (function_at g.given.code x.coroutine)) refl e
    where
      by_slot : (a : ℕ) → promise_of (edged (b.framing x.coroutine)) ≡ Some a → (o : Option Slot)
          → find (λ (z : Slot). z.alloca == a) x.slots ≡ o → option_map (λ (z : Slot). z.block) o ≡ Some d
          → IsPromiseAt x y d
      by_slot a told None found is = absurd (cc)
      by_slot a told (Some slot) found is =
          let f = find_there (λ (z : Slot). z.alloca == a) x.slots slot found in
          let p = h.slots slot f.3 in
          let position : position_of (b.framing x.coroutine).contents.held a ≡ Some p.position =
          ap (position_of (b.framing x.coroutine).contents.held) (sym (eqb-true slot.alloca a f.2)) ∙ p.position_is in
          record {
            slot = slot;
            listed = f.3;
            block = same_some slot.block d is;
            offset = offset_at (b.framing x.coroutine).layout p.position;
            field = ap (λ (l : Layout). option_map (λ (z : PlacedField). z.offset)
                (find (λ (z : PlacedField). is_promise_kind z.kind) l.fields))
                (ap (layout_of b.given.layouts) h.coroutine
                ∙ sym (given.built.coroutines x.coroutine h.is_coroutine).layout)
                ∙ (laid x.coroutine h.is_coroutine).laid a p.position told position;
            home = ap (home_of r.homes) (sym (same_some slot.block d is)) ∙ p.home;
          }

      on : (o : Option ℕ) → promise_of (function_at g.given.code x.coroutine) ≡ o
          → option_and_then (block_of_slot x.slots) o ≡ Some d → IsPromiseAt x y d
      on None told is = absurd (cc)
      on (Some a) told is =
          by_slot a (ap promise_of (sym (given.coroutines x.coroutine h.is_coroutine)) ∙ told)
          (find (λ (z : Slot). z.alloca == a) x.slots) refl is

  -- an instance is over in both runs or in none
  pub over_same : (x y : Instance) → AreInstances b r.homes t x y → framed_over y ≡ is_over x
  over_same x y h = (λ j. by_status x.status h.status j || h.freed j)
    where
      by_status : (q : Status) → IsStatus b r.homes t x y q y.status → is_finished y.status ≡ is_finished q
      by_status Status.Running k = ap is_finished k
      by_status Status.Finished k = ap is_finished k
      by_status (Status.Suspended p env) k = ap is_finished k.2

  abbrev Gives : Value → Result Value Cause → Type 0
  Gives v q = (u : Value) × (q ≡ Ok u) × IsValue r.homes v u

  same_ok : {a c : Value} → ◌≡◌ {A = Result Value Cause} (Ok a) (Ok c) → a ≡ c
  same_ok q = cc

  -- ---- from a frame address to the promise

  abbrev look : Instance → Result Value Cause
  look x =
      and_then (found Cause.Promise (promise_block g.given x))
      (λ d. ok_if (not (is_over x)) Cause.Dead (pointer_to d))

  abbrev look_there : Instance → Result Value Cause
  look_there y =
      and_then (found Cause.Promise (promise_offset b.given y))
      (λ o. ok_if (not (framed_over y)) Cause.Dead (address_behind y o))

  looked : (x y : Instance) → AreInstances b r.homes t x y → (v : Value) → look x ≡ Ok v → Gives v (look_there y)
  looked x y h v e = on (promise_block g.given x) refl (is_over x) refl e
    where
      on : (o : Option ℕ) → promise_block g.given x ≡ o → (u : Bool) → is_over x ≡ u
          → and_then (found Cause.Promise o) (λ d. ok_if (not u) Cause.Dead (pointer_to d)) ≡ Ok v
          → Gives v (look_there y)
      on None is u over k = absurd (cc)
      on (Some d) is true over k = absurd (cc)
      on (Some d) is false over k =
          let p = promise_at x y d h is in
          let sum : 0 + (y.start + p.offset) ≡ y.start + p.offset = omega arith in (
            address_behind y p.offset,
            (λ j. and_then (found Cause.Promise (p.field j))
                (λ o. ok_if (not ((over_same x y h ∙ over) j)) Cause.Dead (address_behind y o))),
            subst (λ (z : Value). IsValue r.homes z (address_behind y p.offset)) (same_ok k) (
              ap (λ (q : Home). q.is_seen) p.home,
              ap (λ (n : ℕ). Value.Ptr (Pointer.At y.block (record { bits = n % 2 ^ 64 }))) (sym sum)
                  ∙ ap (λ (q : Home). Value.Ptr (Pointer.At q.block (moved (offset_of 0) q.offset))) (sym p.home),
            ),
          )

  promise_there : (p q : Value) → IsValue r.homes p q → (v : Value) → promise_of_frame g.given s p ≡ Ok v
      → Gives v (framed_promise_of_frame b.given t q)
  promise_there p q k v e = on (instance_at s.instances p) refl e
    where
      on : (o : Option (ℕ × Instance)) → instance_at s.instances p ≡ o
          → and_then (found Cause.Frame o) (λ (i, x). look x) ≡ Ok v → Gives v (framed_promise_of_frame b.given t q)
      on None is z = absurd (cc)
      on (Some f) is z =
          let h = instance_found b s t r placed p q k f is in
          subst (λ (o : Option (ℕ × Instance)). Gives v (and_then (found Cause.Frame o) (λ (i, x). look_there x)))
          (sym h.is) (looked f.1 h.beside h.instances v z)

  -- ---- from the promise to the frame address

  -- the frame has room for it in its block
  near_promise : (x y : Instance) (d : ℕ) (p : IsPromiseAt x y d) → y.start + p.offset < 2 ^ 64
  near_promise x y d p =
      let seen : (home_of r.homes d).is_seen ≡ true = ap (λ (q : Home). q.is_seen) p.home in
      let lt : d < length r.homes = seen_known r.homes d seen in
      let known : length r.homes ≡ length s.world.memory = r.known in
      let long : length (muted r.hides s.world.memory) ≡ length s.world.memory = muted_length r.hides s.world.memory in
      let z = got (muted r.hides s.world.memory) d (omega (arith, lt, known, long)) in
      let k = r.world.bounds.each d z.0 seen z.1 in
      let fits : (home_of r.homes d).offset + z.0.size ≤ k.block.size = k.fits in
      let small : k.block.size < 2 ^ 64 = k.small in
      let at : (home_of r.homes d).offset ≡ y.start + p.offset = ap (λ (q : Home). q.offset) p.home in
      omega (arith, fits, small, at)

  module _ (n d : ℕ) (x y : Instance) (there : slice_get s.instances n ≡ Some x)
      (there' : slice_get t.instances n ≡ Some y) (p : IsPromiseAt x y d) where
    h : AreInstances b r.homes t x y
    h = r.instances n x y there there'

    abbrev test : Instance → Bool
    test = is_promise_at b.given y.block (y.start + p.offset)

    passes : test y ≡ true
    passes =
        (λ j. (y.block == y.block) && option_map_or (λ (o : ℕ). y.start + p.offset == y.start + o) (p.field j) false)
        ∙ and_both (y.block == y.block) (y.start + p.offset == y.start + p.offset) (eq-eqb y.block y.block refl)
        (eq-eqb (y.start + p.offset) (y.start + p.offset) refl)

    only : (j : ℕ) (z : Instance) → slice_get t.instances j ≡ Some z → test z ≡ true → j ≡ n
    only j z e k =
        let lt : j < length t.instances = get_within t.instances j z e in
        let many : length t.instances ≡ length s.instances = r.count in
        let w = got s.instances j (omega (arith, lt, many)) in
        let i = r.instances j w.0 z w.1 e in
        let same : z.block ≡ y.block =
        eqb-true z.block y.block (and_first (z.block == y.block)
        (option_map_or (λ (o : ℕ). y.start + p.offset == z.start + o) (promise_offset b.given z) false) k) in
        placed.apart j n w.0 x w.1 there
        (r.mates.alone w.0.block x.block y.block (known_block b s t r w.0.block z.block i.block)
        (known_block b s t r x.block y.block h.block) (i.block ∙ ap whole_home same) h.block)

    found_last : last_where test t.instances ≡ Some (n, y)
    found_last =
        let first : 0 + n ≡ n = omega arith in
        ap (option_and_then (numbered t.instances))
        (last_only test t.instances n y there' passes only 0 ∙ ap Some first)
        ∙ ap (option_map (λ (z : Instance). (n, z))) there'

    not_over : is_live_at s.world.memory d ≡ true → is_over x ≡ false
    not_over live = on (is_over x) refl
      where
        on : (u : Bool) → is_over x ≡ u → is_over x ≡ false
        on false e = e
        on true e =
            let dead : is_live_at s.world.memory p.slot.block ≡ false = placed.dead n x p.slot there e p.listed in
            let no : true ≡ false = sym live ∙ ap (is_live_at s.world.memory) (sym p.block) ∙ dead in
            absurd (cc)

    back_there : is_live_at s.world.memory d ≡ true
        → framed_frame_of_promise b.given t (Value.Ptr (Pointer.At y.block (offset_of (y.start + p.offset))))
        ≡ Ok (frame_address_of y)
    back_there live =
        ap (λ (o : Option (ℕ × Instance)). and_then (found Cause.Promise o)
        (λ (i, z). ok_if (not (framed_over z)) Cause.Promise (frame_address_of z))) found_last
        ∙ ap (λ (u : Bool). ok_if (not u) Cause.Promise (frame_address_of y)) (over_same x y h ∙ not_over live)

    back_stands : IsValue r.homes (frame_address_of x) (frame_address_of y)
    back_stands = address_stands b s t r placed (Some (n, x)) (Some (n, y)) (record {
      beside = y;
      is = refl;
      source = there;
      target = there';
      instances = h;
    })

  -- where the promise lies
  promise_is : (d : ℕ) (x : Instance) → has_promise_at g.given d x ≡ true → promise_block g.given x ≡ Some d
  promise_is d x e = on (promise_block g.given x) refl e
    where
      on : (o : Option ℕ) → promise_block g.given x ≡ o → option_map_or (λ (c : ℕ). d == c) o false ≡ true
          → promise_block g.given x ≡ Some d
      on None is k = absurd (cc)
      on (Some c) is k = is ∙ ap Some (sym (eqb-true d c k))

  frame_there : (d : ℕ) (o : Offset) (q : Value) → IsValue r.homes (Value.Ptr (Pointer.At d o)) q → (v : Value)
      → frame_of_promise g.given s (Value.Ptr (Pointer.At d o)) ≡ Ok v → Gives v (framed_frame_of_promise b.given t q)
  frame_there d o q k v e = on (o.bits == 0) refl e
    where
      by_live : (x : Instance) → find (has_promise_at g.given d) s.instances ≡ Some x → (o.bits == 0) ≡ true
          → (u : Bool) → is_live_at s.world.memory d ≡ u → ok_if u Cause.Promise (frame_address_of x) ≡ Ok v
          → Gives v (framed_frame_of_promise b.given t q)
      by_live x is start false live z = absurd (cc)
      by_live x is start true live z =
          let f = find_there (has_promise_at g.given d) s.instances x is in
          let w = other_instance b s t r f.0 x f.1 in
          let p = promise_at x w.0 d w.2 (promise_is d x f.2) in
          let small : w.0.start + p.offset < 2 ^ 64 = near_promise x w.0 d p in
          let zero_bits : o.bits ≡ 0 = eqb-true o.bits 0 start in
          let bits : (o.bits + (w.0.start + p.offset)) % 2 ^ 64 ≡ w.0.start + p.offset =
          omega (arith, small, zero_bits) in
          let q_is : q ≡ Value.Ptr (Pointer.At w.0.block (offset_of (w.0.start + p.offset))) =
          k.1 ∙ ap (λ (u : Home). Value.Ptr (Pointer.At u.block (moved o u.offset))) p.home
          ∙ ap (λ (m : ℕ). Value.Ptr (Pointer.At w.0.block (offset_of m))) bits in (
            frame_address_of w.0,
            ap (framed_frame_of_promise b.given t) q_is ∙ back_there f.0 d x w.0 f.1 w.1 p live,
            subst (λ (u : Value). IsValue r.homes u (frame_address_of w.0)) (same_ok z)
                (back_stands f.0 d x w.0 f.1 w.1 p),
          )

      by_found : (m : Option Instance) → find (has_promise_at g.given d) s.instances ≡ m → (o.bits == 0) ≡ true
          → and_then (found Cause.Promise m)
          (λ x. ok_if (is_live_at s.world.memory d) Cause.Promise (frame_address_of x)) ≡ Ok v
          → Gives v (framed_frame_of_promise b.given t q)
      by_found None is start z = absurd (cc)
      by_found (Some x) is start z = by_live x is start (is_live_at s.world.memory d) refl z

      on : (u : Bool) → (o.bits == 0) ≡ u
          → and_then (found Cause.Promise (if u then find (has_promise_at g.given d) s.instances else None))
          (λ x. ok_if (is_live_at s.world.memory d) Cause.Promise (frame_address_of x)) ≡ Ok v
          → Gives v (framed_frame_of_promise b.given t q)
      on true start z = by_found (find (has_promise_at g.given d) s.instances) refl start z
      on false start z = absurd (cc)

  any_frame : (p q : Value) → IsValue r.homes p q → (v : Value) → frame_of_promise g.given s p ≡ Ok v
      → Gives v (framed_frame_of_promise b.given t q)
  any_frame (Value.Ptr (Pointer.At d o)) q k v e = frame_there d o q k v e
  any_frame (Value.Ptr Pointer.Null) q k v e = absurd (cc)
  any_frame (Value.Ptr (Pointer.Func f)) q k v e = absurd (cc)
  any_frame (Value.Int w) q k v e = absurd (cc)
  any_frame Value.Poison q k v e = absurd (cc)

  pub promised : (from now : Operand) → is_true now ≡ is_true from → (p q : Value) → IsValue r.homes p q → (v : Value)
      → promise g.given s p from ≡ Ok v → Gives v (framed_promise b.given t q now)
  promised from now same p q k v e =
      subst
      (λ (u : Bool). Gives v (if u then framed_frame_of_promise b.given t q else framed_promise_of_frame b.given t q))
      (sym same) (either (is_true from) e)
    where
      either : (u : Bool) → (if u then frame_of_promise g.given s p else promise_of_frame g.given s p) ≡ Ok v
          → Gives v (if u then framed_frame_of_promise b.given t q else framed_promise_of_frame b.given t q)
      either true z = any_frame p q k v z
      either false z = promise_there p q k v z
