-- The words that are solved for are the needed values by paths of blocks.
use Rattle.std.proofs.Common.{◌≡◌, ◌≢◌, ℕ, zero, suc, ◌+◌, ◌<◌, ◌⊎◌, Bool, true, false, List, [], ◌∷◌, ◌++◌, length, map, Some, None, Option, refl, sym, ap, ◌∙◌, subst, ⊎_elim, inl, inr, arith, eq-eqb}
use Rattle.std.specs.Prelude.{bit_xor, filter, option_map, reverse, slice_get, slice_set, if◌then◌else◌, ◌==◌, ◌&&◌, ◌||◌}
use Rattle.std.proofs.lemmas.Bool.{cases_eq, cases_lt, eqb-true, false≢true}
use Rattle.std.proofs.lemmas.List.{length-map, length-set, reverse-append}
use Rattle.std.proofs.lemmas.Option.{slice_get-map, slice_get_within}
use Rattle.flow_bits.specs.Bits.{HasBit}
use Rattle.flow_bits.specs.Reaching.{AnswersAt, Reaches}
use Rattle.flow_bits.specs.Reaching.Reaches.{Start, Edge}
use Rattle.rule_uses.proofs.flow_blocks.Bounds.{edge_bounded}
use Rattle.rule_uses.proofs.flow_blocks.Elements.{listed_append, listed_map, map_listed}
use Rattle.rule_uses.proofs.flow_blocks.Reached.{word_within}
use Rattle.rule_uses.specs.flow_blocks.Edges.{block_edges}
use Rattle.rule_uses.specs.flow_blocks.Words.{word_at}
use Rattle.rule_uses.specs.Questions.{all_bits, block_word, value_word}
use Rattle.rule_uses.specs.Uses.{values_at}
use Rattle.flow_solver.proofs.Lists.{listed_at, listed_cases, listed_front, listed_last, place_of, same_place}
use Rattle.flow_solver.specs.Paths.{IsListed}
use Rattle.ir_model.specs.declared.module.Block.{Block}
use Rattle.ir_model.specs.declared.module.Function.{Function}
use Rattle.ir_paths.specs.Windows.{end_block}
use Rattle.frame_crossing.proofs.Bits.{IsOwn, all_bit, flipped_off, flipped_on, in_without, no_bit, still_without}
use Rattle.frame_crossing.proofs.Blocks.{listed_back}
use Rattle.frame_crossing.proofs.Made.{made_told, opens_told, told_opens, within_words, word_set_here, word_set_other}
use Rattle.frame_crossing.proofs.Walks.{IsNeededIn, IsOpenIn}
use Rattle.frame_crossing.proofs.Walks.IsNeededIn.{Open, ByUse, ByEdge}
use Rattle.frame_crossing.specs.EdgeUses.{edge_use, edge_uses, has_edge, is_edge}
use Rattle.frame_crossing.specs.Paths.{IsOutside}
use Rattle.frame_crossing.specs.Words.{block_open, kept_back, needed_starts, open_starts, turned, use_start, without}
use Rattle.frame_crossing.specs.declared.edge_use.EdgeUse.{EdgeUse}

-- ---- what is left of a list

filter_step : {A : Type 0} (p : A → Bool) (y x : A) (xs : List A) → (IsListed y (filter p xs) → IsListed y xs × (p y ≡ true)) → (b : Bool) → p x ≡ b → IsListed y (if b then x ∷ filter p xs else filter p xs) → IsListed y (x ∷ xs) × (p y ≡ true)
filter_step p y x xs later true e h = ⊎_elim (λ same. (inl same, ap p same ∙ e)) (λ rest. let k = later rest in (inr k.0, k.1)) h
filter_step p y x xs later false e h = let k = later h in (inr k.0, k.1)

pub in_filter : {A : Type 0} (p : A → Bool) (y : A) (xs : List A) → IsListed y (filter p xs) → IsListed y xs × (p y ≡ true)
in_filter p y [] h = absurd h
in_filter p y (x ∷ xs) h = filter_step p y x xs (in_filter p y xs) (p x) refl h

step_filter : {A : Type 0} (p : A → Bool) (y x : A) (xs : List A) → p y ≡ true → (IsListed y xs → IsListed y (filter p xs)) → (b : Bool) → p x ≡ b → IsListed y (x ∷ xs) → IsListed y (if b then x ∷ filter p xs else filter p xs)
step_filter p y x xs e later true is h = ⊎_elim (λ same. inl same) (λ rest. inr (later rest)) h
step_filter p y x xs e later false is h = ⊎_elim (λ same. absurd (false≢true (sym is ∙ ap p (sym same) ∙ e))) (λ rest. later rest) h

pub filter_in : {A : Type 0} (p : A → Bool) (y : A) (xs : List A) → IsListed y xs → p y ≡ true → IsListed y (filter p xs)
filter_in p y [] h e = absurd h
filter_in p y (x ∷ xs) h e = step_filter p y x xs e (λ k. filter_in p y xs k e) (p x) refl h

edge_by : (b c : Bool) → (b || c) ≡ true → (b ≡ true) ⊎ (c ≡ true)
edge_by true c e = inl refl
edge_by false c e = inr e

both : (b c : Bool) → (b && c) ≡ true → (b ≡ true) × (c ≡ true)
both true c e = (refl, e)
both false c e = absurd (false≢true e)

pub edge_listed : (edges : List (ℕ × ℕ)) (from to : ℕ) → has_edge edges from to ≡ true → IsListed (from, to) edges
edge_listed [] from to h = absurd (false≢true h)
edge_listed (e ∷ es) from to h = ⊎_elim
    (λ here. let two = both (from == e.0) (to == e.1) here in inl (pair (eqb-true from e.0 two.0) (eqb-true to e.1 two.1)))
    (λ later. inr (edge_listed es from to later))
    (edge_by ((from == e.0) && (to == e.1)) (has_edge es from to) h)
  where
    pair : from ≡ e.0 → to ≡ e.1 → (from, to) ≡ e
    pair a b = ap (λ (x : ℕ). (x, to)) a ∙ ap (λ (x : ℕ). (e.0, x)) b

and_true : (b c : Bool) → b ≡ true → c ≡ true → (b && c) ≡ true
and_true true c x y = y
and_true false c x y = absurd (false≢true x)

or_first : (b c : Bool) → b ≡ true → (b || c) ≡ true
or_first true c x = refl
or_first false c x = absurd (false≢true x)

or_second : (b c : Bool) → c ≡ true → (b || c) ≡ true
or_second true c x = refl
or_second false c x = x

pub listed_edge : (edges : List (ℕ × ℕ)) (from to : ℕ) → IsListed (from, to) edges → has_edge edges from to ≡ true
listed_edge [] from to h = absurd h
listed_edge (e ∷ es) from to h = ⊎_elim
    (λ same. or_first ((from == e.0) && (to == e.1)) (has_edge es from to) (and_true (from == e.0) (to == e.1) (eq-eqb from e.0 (ap (λ (p : ℕ × ℕ). p.0) same)) (eq-eqb to e.1 (ap (λ (p : ℕ × ℕ). p.1) same))))
    (λ later. or_second ((from == e.0) && (to == e.1)) (has_edge es from to) (listed_edge es from to later))
    h

-- ---- the other way round

one_behind : {X : Type 0} (x : X) (xs : List X) → reverse (x ∷ xs) ≡ reverse xs ++ x ∷ []
one_behind x xs = reverse-append (x ∷ []) xs

pub in_reverse : {X : Type 0} (y : X) (xs : List X) → IsListed y (reverse xs) → IsListed y xs
in_reverse y [] h = h
in_reverse y (x ∷ xs) h = ⊎_elim (λ later. inr (in_reverse y xs later)) (λ same. inl same) (listed_cases y x (reverse xs) (subst (IsListed y) (one_behind x xs) h))

pub reverse_in : {X : Type 0} (y : X) (xs : List X) → IsListed y xs → IsListed y (reverse xs)
reverse_in y [] h = h
reverse_in y (x ∷ xs) h = subst (IsListed y) (sym (one_behind x xs)) (⊎_elim (λ same. subst (λ z. IsListed z (reverse xs ++ x ∷ [])) (sym same) (listed_last x (reverse xs))) (λ later. listed_front y (reverse xs) (x ∷ []) (reverse_in y xs later)) h)

-- ---- starts

record IsStart (at : ℕ) (words : List ℕ) (node word : ℕ) : Type 0 where
  place : ℕ
  is_node : node ≡ at + place
  is_word : slice_get words place ≡ Some word

pair_parts : (a b c d : ℕ) → ◌≡◌ {A = ℕ × ℕ} (a, b) (c, d) → (a ≡ c) × (b ≡ d)
pair_parts a b c d e = (ap (λ (p : ℕ × ℕ). p.0) e, ap (λ (p : ℕ × ℕ). p.1) e)

open_listed : (at : ℕ) (words : List ℕ) (node word : ℕ) → IsListed (node, word) (open_starts at words) → IsStart at words node word
open_listed at [] node word h = absurd h
open_listed at (w ∷ ws) node word h = ⊎_elim
    (λ same. let two = pair_parts node word at w same in let first = two.0 in record { place = 0; is_node = (let e : node ≡ at + 0 = omega (arith, first) in e); is_word = ap (λ (x : ℕ). Some x) (sym two.1) })
    (λ later. let s = open_listed (at + 1) ws node word later in let first = s.is_node in record { place = suc s.place; is_node = (let e : node ≡ at + suc s.place = omega (arith, first) in e); is_word = s.is_word })
    h

listed_open : (at : ℕ) (words : List ℕ) (place word : ℕ) → slice_get words place ≡ Some word → IsListed (at + place, word) (open_starts at words)
listed_open at [] place word e = absurd (cc)
listed_open at (w ∷ ws) zero word e = inl (ap (λ (x : ℕ). (at + 0, x)) (some_same word w e) ∙ ap (λ (x : ℕ). (x, w)) (let z : at + 0 ≡ at = omega arith in z))
  where
    some_same : (a b : ℕ) → Some b ≡ Some a → a ≡ b
    some_same a b e = cc
listed_open at (w ∷ ws) (suc k) word e =
    let step : (at + 1) + k ≡ at + suc k = omega arith in
    inr (subst (λ (n : ℕ). IsListed (n, word) (open_starts (at + 1) ws)) step (listed_open (at + 1) ws k word e))

pub open_within : (at : ℕ) (words : List ℕ) (node word : ℕ) → IsListed (node, word) (open_starts at words) → node < at + length words
open_within at words node word h =
    let s = open_listed at words node word h in
    let lt = slice_get_within words s.place word s.is_word in
    let e = s.is_node in
    omega (arith, lt, e)

-- ---- needed values

module _ (f : Function) (numbers : List (Option ℕ)) (chunk v c : ℕ) (o : IsOwn numbers chunk v c) where
  abbrev made : List ℕ
  made = map (block_word numbers chunk) f.blocks

  abbrev stops : List ℕ
  stops = slice_set made (end_block f) all_bits

  abbrev opens : List ℕ
  opens = slice_set (map (block_open numbers chunk) f.blocks) (end_block f) 0

  abbrev uses : List EdgeUse
  uses = filter (is_edge (block_edges f)) (edge_uses f)

  abbrev starts : List (ℕ × ℕ)
  starts = needed_starts numbers chunk stops opens uses

  abbrev back : List (ℕ × ℕ)
  back = map turned (block_edges f)

  made_length : length made ≡ length f.blocks
  made_length = length-map f.blocks (block_word numbers chunk)

  -- where nothing stops the value
  goes_on : (b : ℕ) → b < length f.blocks → (HasBit (word_at stops b) c → ⊥) → IsOutside f b × (IsListed v (values_at f b) → ⊥)
  goes_on b lt none = (outside, λ h. none (subst (λ (w : ℕ). HasBit w c) (sym (word_set_other made (end_block f) b all_bits outside)) ((made_told numbers chunk v c o f b).1 h)))
    where
      outside : IsOutside f b
      outside e =
          let in_range : end_block f < length made = omega (arith, lt, e, made_length) in
          none (subst (λ (w : ℕ). HasBit w c) (sym (ap (word_at stops) e ∙ word_set_here made (end_block f) all_bits in_range)) (all_bit c o.small))

  not_stopped : (b : ℕ) → IsOutside f b → (IsListed v (values_at f b) → ⊥) → HasBit (word_at stops b) c → ⊥
  not_stopped b out none has = none ((made_told numbers chunk v c o f b).0 (subst (λ (w : ℕ). HasBit w c) (word_set_other made (end_block f) b all_bits out) has))

  is_open : (b : ℕ) → HasBit (word_at opens b) c → IsNeededIn f v b
  is_open b has = ⊎_elim at_end elsewhere (cases_eq b (end_block f))
    where
      at_end : b ≡ end_block f → IsNeededIn f v b
      at_end e = ⊎_elim
          (λ lt. absurd (no_bit c (subst (λ (w : ℕ). HasBit w c) (ap (word_at opens) e ∙ word_set_here (map (block_open numbers chunk) f.blocks) (end_block f) 0 lt) has)))
          (λ past.
          let len = length-set (map (block_open numbers chunk) f.blocks) (end_block f) 0 in
          let inside = within_words opens b c has in
          absurd (omega (arith, len, inside, past, e)))
          (cases_lt (end_block f) (length (map (block_open numbers chunk) f.blocks)))

      elsewhere : b ≢ end_block f → IsNeededIn f v b
      elsewhere ne = Open b ne (opens_told numbers chunk v c o f b (subst (λ (w : ℕ). HasBit w c) (word_set_other (map (block_open numbers chunk) f.blocks) (end_block f) b 0 ne) has))

  by_use : (u : EdgeUse) → IsListed u uses → HasBit (without (value_word numbers chunk u.value) (word_at stops u.from)) c → IsNeededIn f v u.from
  by_use u listed has =
      let two = in_without (value_word numbers chunk u.value) (word_at stops u.from) c o.small has in
      let kept = in_filter (is_edge (block_edges f)) u (edge_uses f) listed in
      let edge : IsListed (u.from, u.to) (block_edges f) = edge_listed (block_edges f) u.from u.to kept.1 in
      let on = goes_on u.from (edge_bounded f u.from u.to edge).0 two.1 in
      ByUse u.from u.to on.0 on.1 edge (subst (λ (x : ℕ). IsListed (edge_use u.from u.to x) (edge_uses f)) (o.only u.value two.0) kept.0)

  word_is : (e x y : ℕ) → slice_get back e ≡ Some (x, y) → slice_get (map (kept_back stops) back) e ≡ Some (kept_back stops (x, y))
  word_is e x y there = slice_get-map (kept_back stops) back e ∙ ap (option_map (kept_back stops)) there

  turned_edge : (x y : ℕ) → IsListed (x, y) back → IsListed (y, x) (block_edges f)
  turned_edge x y h =
      let found : (p : ℕ × ℕ) × (IsListed p (block_edges f) × ((x, y) ≡ turned p)) = listed_map turned (x, y) (block_edges f) h in
      subst (λ (p : ℕ × ℕ). IsListed p (block_edges f)) (ap (λ (q : ℕ × ℕ). (q.1, q.0)) (sym found.1.1)) found.1.0

  to_needed : (b : ℕ) → Reaches back (map (kept_back stops) back) starts c b → IsNeededIn f v b
  to_needed _ (Start node word listed has) = ⊎_elim
      (λ first.
      let s = open_listed 0 opens node word first in
      let e = s.is_node in
      let same : s.place ≡ node = omega (arith, e) in
      is_open node (subst (λ (w : ℕ). HasBit w c) (sym (ap (λ (x : Option ℕ). Rattle.std.specs.Prelude.unwrap_or x 0) (ap (slice_get opens) (sym same) ∙ s.is_word))) has))
      (λ second.
      let found : (u : EdgeUse) × (IsListed u uses × ((node, word) ≡ use_start numbers chunk stops u)) = listed_map (use_start numbers chunk stops) (node, word) uses second in
      subst (IsNeededIn f v) (sym (ap (λ (p : ℕ × ℕ). p.0) found.1.1))
      (by_use found.0 found.1.0 (subst (λ (w : ℕ). HasBit w c) (ap (λ (p : ℕ × ℕ). p.1) found.1.1) has)))
      (listed_append (node, word) (open_starts 0 opens) (map (use_start numbers chunk stops) uses) (in_reverse (node, word) (open_starts 0 opens ++ map (use_start numbers chunk stops) uses) listed))
  to_needed _ (Edge e x y word there kept_is has before) =
      let word_same : word ≡ kept_back stops (x, y) = same_place (slice_get (map (kept_back stops) back) e) word (kept_back stops (x, y)) kept_is (word_is e x y there) in
      let edge : IsListed (y, x) (block_edges f) = turned_edge x y (listed_at back e (x, y) there) in
      let on = goes_on y (edge_bounded f y x edge).0 (flipped_off (word_at stops y) c o.small (subst (λ (w : ℕ). HasBit w c) word_same has)) in
      ByEdge y x on.0 on.1 edge (to_needed x before)

  open_block : (b : ℕ) (x : Option Block) → slice_get f.blocks b ≡ x → IsOpenIn v x → b < length f.blocks
  open_block b None e h = absurd h
  open_block b (Some block) e h = slice_get_within f.blocks b block e

  pub needed_bounded : (b : ℕ) → IsNeededIn f v b → b < length f.blocks
  needed_bounded _ (Open b out h) = open_block b (slice_get f.blocks b) refl h
  needed_bounded _ (ByUse from to out none edge used) = (edge_bounded f from to edge).0
  needed_bounded _ (ByEdge from to out none edge needed) = (edge_bounded f from to edge).0

  from_needed : (b : ℕ) → IsNeededIn f v b → Reaches back (map (kept_back stops) back) starts c b
  from_needed _ (Open b out h) =
      let has : HasBit (word_at opens b) c = subst (λ (w : ℕ). HasBit w c) (sym (word_set_other (map (block_open numbers chunk) f.blocks) (end_block f) b 0 out)) (told_opens numbers chunk v c o f b h) in
      Start b (word_at opens b)
      (reverse_in (b, word_at opens b) (open_starts 0 opens ++ map (use_start numbers chunk stops) uses) (listed_front (b, word_at opens b) (open_starts 0 opens) (map (use_start numbers chunk stops) uses)
      (let z : 0 + b ≡ b = omega arith in subst (λ (n : ℕ). IsListed (n, word_at opens b) (open_starts 0 opens)) z (listed_open 0 opens b (word_at opens b) (word_within opens b (within_words opens b c has))))))
      has
  from_needed _ (ByUse from to out none edge used) =
      let u : EdgeUse = edge_use from to v in
      Start from (without (value_word numbers chunk v) (word_at stops from))
      (reverse_in (from, without (value_word numbers chunk v) (word_at stops from)) (open_starts 0 opens ++ map (use_start numbers chunk stops) uses) (listed_back (from, without (value_word numbers chunk v) (word_at stops from)) (open_starts 0 opens) (map (use_start numbers chunk stops) uses)
      (map_listed (use_start numbers chunk stops) u uses (filter_in (is_edge (block_edges f)) u (edge_uses f) used (listed_edge (block_edges f) from to edge)))))
      (still_without (value_word numbers chunk v) (word_at stops from) c o.small o.own (not_stopped from out none))
  from_needed _ (ByEdge from to out none edge needed) =
      let found = place_of back (to, from) (map_listed turned (from, to) (block_edges f) edge) in
      Edge found.0 to from (kept_back stops (to, from)) found.1 (word_is found.0 to from found.1)
      (flipped_on (word_at stops from) c o.small (not_stopped from out none))
      (from_needed to needed)

  module _ (words : List ℕ) (len : length words ≡ length f.blocks + 1) (answers : (node word : ℕ) → slice_get words node ≡ Some word → AnswersAt back (map (kept_back stops) back) starts node word) where
    pub told_needed : (b : ℕ) → HasBit (word_at words b) c → IsNeededIn f v b
    told_needed b has =
        let lt = within_words words b c has in
        to_needed b ((answers b (word_at words b) (word_within words b lt)).is_reached c o.small has)

    pub needed_told : (b : ℕ) → IsNeededIn f v b → HasBit (word_at words b) c
    needed_told b n =
        let lt = needed_bounded b n in
        (answers b (word_at words b) (word_within words b (omega (arith, lt, len)))).is_told c o.small (from_needed b n)
