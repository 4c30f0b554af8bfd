-- Of coro.id and coro.begin a coroutine has one call (rule K2).
use Rattle.std.proofs.Common.{◌≡◌, inl, inr, ⊎_elim, ℕ, zero, suc, ◌+◌, Bool, true, false, List, [], ◌∷◌, length, refl, sym, ap, ◌∙◌, subst, arith}
use Rattle.std.specs.Prelude.{Some, None, Option, find, is_none, not, slice_get, ◌||◌, ◌&&◌, if◌then◌else◌}
use Rattle.ir_laws.specs.ir_base.declared.outcome.Place.{Place}
use Rattle.ir_laws.specs.ir_calls.Calls.{first_call, first_call_by, first_call_in, or_instr}
use Rattle.rule_shape.specs.OneOfEach.{breaks_calls, calls_of, is_missing, is_right_instr, is_second, second_call, wrong_call}
use Rattle.rule_shape.specs.Places.{is_spot, place_of_passing, places_by, places_in, places_where}
use Rattle.rule_shape.specs.declared.one_of_each.Calls.{Calls}
use Rattle.ir_laws.proofs.facts.Truth.{itself, first_no as left_false, second_no as right_false}
use Rattle.rule_laws.proofs.rules.renamed.Outside.{at_point}
use Rattle.rule_laws.proofs.rules.renamed.Switches.{none_part}
use Rattle.ir_laws.proofs.paths.renamed.Uses.{stands_in}
use Rattle.ir_laws.proofs.paths.source_rules.Locals.{listed_either, listed_left, listed_right}
use Rattle.ir_laws.specs.flow_solver.Paths.{IsListed}
use Rattle.ir_parts.specs.Parts.{first_part, instr_place, parts_of}
use Rattle.ir_laws.specs.ir_model.declared.instr.Instr.{Instr}
use Rattle.ir_laws.specs.ir_model.declared.module.Block.{Block}
use Rattle.ir_laws.specs.ir_model.declared.module.Function.{Function}
use Rattle.ir_laws.specs.ir_model.declared.operand.Intrinsic.{Intrinsic}
use Rattle.ir_laws.specs.ir_paths.Windows.{instr_at, instr_in, is_call_of}
use Rattle.ir_laws.specs.ir_paths.declared.point.Point.{Point}
use Rattle.ir_laws.specs.run_laws.changed.Changed.{Each}
use Rattle.rule_windows.specs.Points.{phi_count, phis_in}

-- ---- the places of the instructions that pass a test

module _ (test : Instr → Bool) (func : ℕ) where
  passing_here : (i : Instr) (p : Place) → test i ≡ true → IsListed p (place_of_passing test i p)
  passing_here i p e = subst (λ (b : Bool). IsListed p (if b then p ∷ [] else [])) (sym e) (inl refl)

  in_places : (block at : ℕ) (is : List Instr) (k : ℕ) (i : Instr) → slice_get is k ≡ Some i → test i ≡ true → IsListed (instr_place func block (at + k)) (places_in test func block at is)
  in_places block at [] k i e h = absurd (cc)
  in_places block at (x ∷ is) zero i e h =
      let same : at ≡ at + 0 = omega arith in
      let is_one : i ≡ x = cc in
      listed_left (instr_place func block (at + 0)) (place_of_passing test x (instr_place func block at)) (places_in test func block (at + 1) is)
      (subst (λ (n : ℕ). IsListed (instr_place func block n) (place_of_passing test x (instr_place func block at))) same (passing_here x (instr_place func block at) (ap test (sym is_one) ∙ h)))
  in_places block at (x ∷ is) (suc k) i e h =
      let same : at + 1 + k ≡ at + suc k = omega arith in
      listed_right (instr_place func block (at + suc k)) (place_of_passing test x (instr_place func block at)) (places_in test func block (at + 1) is)
      (subst (λ (n : ℕ). IsListed (instr_place func block n) (places_in test func block (at + 1) is)) same (in_places block (at + 1) is k i e h))

  in_blocks : (block : ℕ) (bs : List Block) (k : ℕ) (b : Block) (at : ℕ) (i : Instr) → slice_get bs k ≡ Some b → slice_get b.instrs at ≡ Some i → test i ≡ true → IsListed (instr_place func (block + k) (length b.phis + at)) (places_by test func block bs)
  in_blocks block [] k b at i e d h = absurd (cc)
  in_blocks block (c ∷ bs) zero b at i e d h =
      let same : block ≡ block + 0 = omega arith in
      let is_one : c ≡ b = cc in
      listed_left (instr_place func (block + 0) (length b.phis + at)) (places_in test func block (length c.phis) c.instrs) (places_by test func (block + 1) bs)
      (subst (λ (n : ℕ). IsListed (instr_place func n (length b.phis + at)) (places_in test func block (length c.phis) c.instrs)) same
      (subst (λ (x : Block). IsListed (instr_place func block (length b.phis + at)) (places_in test func block (length x.phis) x.instrs)) (sym is_one) (in_places block (length b.phis) b.instrs at i d h)))
  in_blocks block (c ∷ bs) (suc k) b at i e d h =
      let same : block + 1 + k ≡ block + suc k = omega arith in
      listed_right (instr_place func (block + suc k) (length b.phis + at)) (places_in test func block (length c.phis) c.instrs) (places_by test func (block + 1) bs)
      (subst (λ (n : ℕ). IsListed (instr_place func n (length b.phis + at)) (places_by test func (block + 1) bs)) same (in_blocks (block + 1) bs k b at i e d h))

  pub place_listed : (f : Function) (p : Point) (i : Instr) → instr_at f p ≡ Some i → test i ≡ true → IsListed (instr_place func p.block (phi_count f p.block + p.at)) (places_where test func f)
  place_listed f p i e h =
      let x = stands_in f p i e in
      let same : 0 + p.block ≡ p.block = omega arith in
      subst (λ (n : ℕ). IsListed (instr_place func p.block (n + p.at)) (places_where test func f)) (sym (ap phis_in x.got))
      (subst (λ (n : ℕ). IsListed (instr_place func n (length x.block.phis + p.at)) (places_where test func f)) same (in_blocks 0 f.blocks p.block x.block p.at i x.got x.stands h))

  -- what is listed is the place of one
  record IsAmong (block at : ℕ) (is : List Instr) (p : Place) : Type 0 where
    at_is : ℕ
    instr : Instr
    stands : slice_get is at_is ≡ Some instr
    place : p ≡ instr_place func block (at + at_is)

  from_passing : (b : Bool) (q p : Place) → IsListed p (if b then q ∷ [] else []) → p ≡ q
  from_passing true q p (inl e) = e
  from_passing true q p (inr h) = absurd h
  from_passing false q p h = absurd h

  from_places : (block at : ℕ) (is : List Instr) (p : Place) → IsListed p (places_in test func block at is) → IsAmong block at is p
  from_places block at [] p h = absurd h
  from_places block at (x ∷ is) p h = ⊎_elim
      (λ here. let same : at ≡ at + 0 = omega arith in record { at_is = 0; instr = x; stands = refl; place = from_passing (test x) (instr_place func block at) p here ∙ ap (instr_place func block) same })
      (λ later. let y = from_places block (at + 1) is p later in let same : at + 1 + y.at_is ≡ at + suc y.at_is = omega arith in record { at_is = suc y.at_is; instr = y.instr; stands = y.stands; place = y.place ∙ ap (instr_place func block) same })
      (listed_either p (place_of_passing test x (instr_place func block at)) (places_in test func block (at + 1) is) h)

  record IsAmongBlocks (block : ℕ) (bs : List Block) (p : Place) : Type 0 where
    block_is : ℕ
    of : Block
    got : slice_get bs block_is ≡ Some of
    at : ℕ
    instr : Instr
    stands : slice_get of.instrs at ≡ Some instr
    place : p ≡ instr_place func (block + block_is) (length of.phis + at)

  from_blocks : (block : ℕ) (bs : List Block) (p : Place) → IsListed p (places_by test func block bs) → IsAmongBlocks block bs p
  from_blocks block [] p h = absurd h
  from_blocks block (b ∷ bs) p h = ⊎_elim
      (λ here.
      let y = from_places block (length b.phis) b.instrs p here in
      let same : block ≡ block + 0 = omega arith in
      record { block_is = 0; of = b; got = refl; at = y.at_is; instr = y.instr; stands = y.stands; place = y.place ∙ ap (λ (n : ℕ). instr_place func n (length b.phis + y.at_is)) same })
      (λ later.
      let y = from_blocks (block + 1) bs p later in
      let same : block + 1 + y.block_is ≡ block + suc y.block_is = omega arith in
      record { block_is = suc y.block_is; of = y.of; got = y.got; at = y.at; instr = y.instr; stands = y.stands; place = y.place ∙ ap (λ (n : ℕ). instr_place func n (length y.of.phis + y.at)) same })
      (listed_either p (places_in test func block (length b.phis) b.instrs) (places_by test func (block + 1) bs) h)

  pub record IsPlaced (f : Function) (p : Place) : Type 0 where
    pub point : Point
    pub instr : Instr
    pub stands : instr_at f point ≡ Some instr
    pub place : p ≡ instr_place func point.block (phi_count f point.block + point.at)

  pub listed_place : (f : Function) (p : Place) → IsListed p (places_where test func f) → IsPlaced f p
  listed_place f p h =
      let y = from_blocks 0 f.blocks p h in
      let same : 0 + y.block_is ≡ y.block_is = omega arith in
      record {
        point = record { block = y.block_is; at = y.at };
        instr = y.instr;
        stands = ap (λ (o : Option Block). instr_in o y.at) y.got ∙ y.stands;
        place = y.place ∙ (λ k. instr_place func (same k) (phis_in (sym y.got k) + y.at));
      }

-- ---- lists of one element

one_listed : {A : Type 0} (xs : List A) (a b : A) → slice_get xs 1 ≡ None → IsListed a xs → IsListed b xs → a ≡ b
one_listed [] a b e x y = absurd x
one_listed (z ∷ []) a b e (inl x) (inl y) = x ∙ sym y
one_listed (z ∷ []) a b e (inl x) (inr y) = absurd y
one_listed (z ∷ []) a b e (inr x) y = absurd x
one_listed (z ∷ w ∷ zs) a b e x y = absurd (cc)

second_listed : {A : Type 0} (xs : List A) (a : A) → slice_get xs 1 ≡ Some a → IsListed a xs
second_listed [] a e = absurd (cc)
second_listed (z ∷ []) a e = absurd (cc)
second_listed (z ∷ w ∷ zs) a e = let same : a ≡ w = cc in inr (inl same)

pub same_point_of : (func : ℕ) (f : Function) (p q : Point) → instr_place func p.block (phi_count f p.block + p.at) ≡ instr_place func q.block (phi_count f q.block + q.at) → p ≡ q
same_point_of func f p q e =
    let block_some : Some p.block ≡ Some q.block = ap (λ (x : Place). x.block) e in
    let blocks : p.block ≡ q.block = cc in
    let at_some : Some (phi_count f p.block + p.at) ≡ Some (phi_count f q.block + q.at) = ap (λ (x : Place). x.instr) e in
    let sums : phi_count f p.block + p.at ≡ phi_count f q.block + q.at = cc in
    let counts : phi_count f p.block ≡ phi_count f q.block = ap (phi_count f) blocks in
    let ats : p.at ≡ q.at = omega (arith, sums, counts) in
    λ k. record { block = blocks k; at = ats k }

spot_same : (func block at : ℕ) → is_spot (Some (instr_place func block at)) (instr_place func block at) ≡ true
spot_same func block at = (λ k. itself block k && itself at k)

module _ (func : ℕ) (f : Function) (coroutine : f.coroutine ≡ true) (calls : wrong_call func f ≡ None) where
  abbrev c : Calls
  c = calls_of func f

  parts : Each (λ x. breaks_calls c x.0 x.1 ≡ false) (parts_of func f)
  parts = none_part (breaks_calls c) (parts_of func f) (subst (λ (b : Bool). (if b then first_part (breaks_calls c) (parts_of func f) else None) ≡ None) coroutine calls)

  pub none_missing : is_missing Intrinsic.CoroId f || (is_missing Intrinsic.CoroBegin f || is_missing Intrinsic.CoroEnd f) ≡ false
  none_missing = parts.0

  here : (p : Point) (i : Instr) → instr_at f p ≡ Some i → is_second c (instr_place func p.block (phi_count f p.block + p.at)) ≡ false
  here p i e = left_false (is_second c (instr_place func p.block (phi_count f p.block + p.at))) (not (is_right_instr c (instr_place func p.block (phi_count f p.block + p.at)) i)) (at_point (λ x. breaks_calls c x.0 x.1 ≡ false) func f p i parts e)

  -- no call is a second one
  no_second : (j : Intrinsic) → ((q : Place) → is_second c q ≡ false → is_spot (second_call j func f) q ≡ false) → second_call j func f ≡ None
  no_second j among = on (second_call j func f) refl
    where
      on : (o : Option Place) → second_call j func f ≡ o → o ≡ None
      on None e = refl
      on (Some q) e =
          let x = listed_place (is_call_of j) func f q (second_listed (places_where (is_call_of j) func f) q e) in
          let r : Place = instr_place func x.point.block (phi_count f x.point.block + x.point.at) in
          let t : true ≡ false = sym (spot_same func x.point.block (phi_count f x.point.block + x.point.at)) ∙ ap (λ (o : Option Place). is_spot o r) (ap Some (sym x.place) ∙ sym e) ∙ among r (here x.point x.instr x.stands) in
          absurd (cc)

  pub no_second_begin : second_call Intrinsic.CoroBegin func f ≡ None
  no_second_begin = no_second Intrinsic.CoroBegin (λ q e. left_false (is_spot c.second_begin q) (is_spot c.second_end q) (right_false (is_spot c.second_id q) (is_spot c.second_begin q || is_spot c.second_end q) e))

  pub no_second_id : second_call Intrinsic.CoroId func f ≡ None
  no_second_id = no_second Intrinsic.CoroId (λ q e. left_false (is_spot c.second_id q) (is_spot c.second_begin q || is_spot c.second_end q) e)

  pub no_second_end : second_call Intrinsic.CoroEnd func f ≡ None
  no_second_end = no_second Intrinsic.CoroEnd (λ q e. right_false (is_spot c.second_begin q) (is_spot c.second_end q) (right_false (is_spot c.second_id q) (is_spot c.second_begin q || is_spot c.second_end q) e))

  one_call : (j : Intrinsic) → second_call j func f ≡ None → (p q : Point) (i k : Instr) → instr_at f p ≡ Some i → instr_at f q ≡ Some k → is_call_of j i ≡ true → is_call_of j k ≡ true → p ≡ q
  one_call j none p q i k d e a b =
      same_point_of func f p q
      (one_listed (places_where (is_call_of j) func f) (instr_place func p.block (phi_count f p.block + p.at)) (instr_place func q.block (phi_count f q.block + q.at)) none (place_listed (is_call_of j) func f p i d a) (place_listed (is_call_of j) func f q k e b))

  pub one_begin : (p q : Point) (i k : Instr) → instr_at f p ≡ Some i → instr_at f q ≡ Some k → is_call_of Intrinsic.CoroBegin i ≡ true → is_call_of Intrinsic.CoroBegin k ≡ true → p ≡ q
  one_begin = one_call Intrinsic.CoroBegin no_second_begin

  pub one_id : (p q : Point) (i k : Instr) → instr_at f p ≡ Some i → instr_at f q ≡ Some k → is_call_of Intrinsic.CoroId i ≡ true → is_call_of Intrinsic.CoroId k ≡ true → p ≡ q
  one_id = one_call Intrinsic.CoroId no_second_id

  pub one_end : (p q : Point) (i k : Instr) → instr_at f p ≡ Some i → instr_at f q ≡ Some k → is_call_of Intrinsic.CoroEnd i ≡ true → is_call_of Intrinsic.CoroEnd k ≡ true → p ≡ q
  one_end = one_call Intrinsic.CoroEnd no_second_end

  -- the calls of a coroutine are right
  pub right_call : (p : Point) (i : Instr) → instr_at f p ≡ Some i → is_right_instr c (instr_place func p.block (phi_count f p.block + p.at)) i ≡ true
  right_call p i e = on (is_right_instr c (instr_place func p.block (phi_count f p.block + p.at)) i) (right_false (is_second c (instr_place func p.block (phi_count f p.block + p.at))) (not (is_right_instr c (instr_place func p.block (phi_count f p.block + p.at)) i)) (at_point (λ x. breaks_calls c x.0 x.1 ≡ false) func f p i parts e))
    where
      on : (b : Bool) → not b ≡ false → b ≡ true
      on true k = refl
      on false k = absurd (cc)

-- ---- where the first call stands

pub record IsCalled (f : Function) (j : Intrinsic) (i : Instr) : Type 0 where
  pub point : Point
  pub stands : instr_at f point ≡ Some i
  pub is_call : is_call_of j i ≡ true

record IsFirstIn (is : List Instr) (j : Intrinsic) (i : Instr) : Type 0 where
  at : ℕ
  stands : slice_get is at ≡ Some i
  is_call : is_call_of j i ≡ true

first_in : (j : Intrinsic) (is : List Instr) (i : Instr) → first_call_in j is ≡ Some i → IsFirstIn is j i
first_in j [] i e = absurd (cc)
first_in j (x ∷ is) i e = on (is_call_of j x) refl e (first_in j is i)
  where
    on : (b : Bool) → is_call_of j x ≡ b → (if b then Some x else find (is_call_of j) is) ≡ Some i → (first_call_in j is ≡ Some i → IsFirstIn is j i) → IsFirstIn (x ∷ is) j i
    on true d k rest = let same : x ≡ i = cc in record { at = 0; stands = k; is_call = ap (is_call_of j) (sym same) ∙ d }
    on false d k rest = let y = rest k in record { at = suc y.at; stands = y.stands; is_call = y.is_call }

record IsFirstBy (bs : List Block) (j : Intrinsic) (i : Instr) : Type 0 where
  block : ℕ
  at : ℕ
  stands : instr_in (slice_get bs block) at ≡ Some i
  is_call : is_call_of j i ≡ true

first_by : (j : Intrinsic) (bs : List Block) (i : Instr) → first_call_by j bs ≡ Some i → IsFirstBy bs j i
first_by j [] i e = absurd (cc)
first_by j (b ∷ bs) i e = on (first_call_in j b.instrs) refl e (first_by j bs i)
  where
    on : (o : Option Instr) → first_call_in j b.instrs ≡ o → or_instr o (first_call_by j bs) ≡ Some i → (first_call_by j bs ≡ Some i → IsFirstBy bs j i) → IsFirstBy (b ∷ bs) j i
    on (Some x) d k rest = let y = first_in j b.instrs i (d ∙ k) in record { block = 0; at = y.at; stands = y.stands; is_call = y.is_call }
    on None d k rest = let y = rest k in record { block = suc y.block; at = y.at; stands = y.stands; is_call = y.is_call }

pub first_call_at : (f : Function) (j : Intrinsic) (i : Instr) → first_call j f ≡ Some i → IsCalled f j i
first_call_at f j i e =
    let y = first_by j f.blocks i e in
    record { point = record { block = y.block; at = y.at }; stands = y.stands; is_call = y.is_call }

pub there_is : (j : Intrinsic) (f : Function) → is_missing j f ≡ false → (i : Instr) × (first_call j f ≡ Some i)
there_is j f e = on (first_call j f) refl e
  where
    on : (o : Option Instr) → first_call j f ≡ o → is_none o ≡ false → (i : Instr) × (first_call j f ≡ Some i)
    on None d k = absurd (cc)
    on (Some i) d k = (i, d)
