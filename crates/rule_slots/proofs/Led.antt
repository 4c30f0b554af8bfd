-- The names that paths over the steps of getelementptrs reach.
use Rattle.std.proofs.Common.{◌≡◌, ℕ, zero, suc, ◌<◌, ◌≤◌, Bool, true, false, List, [], ◌∷◌, length, map, replicate, Some, Option, refl, sym, ap, ◌∙◌, subst, inl, inr, arith}
use Rattle.std.proofs.lemmas.Bool.{cases_lt, false≢true}
use Rattle.std.proofs.lemmas.Nat.Bits.{bit_at_lowest}
use Rattle.std.proofs.lemmas.Option.{slice_get-get_or, slice_get-map, slice_get_past, slice_get_within}
use Rattle.std.specs.Prelude.{IsTrue, get_or, option_map, slice_get, unwrap_or, ◌⊎◌, ◌%◌, ◌==◌}
use Rattle.flow_bits.specs.Bits.{HasBit}
use Rattle.flow_bits.specs.Reaching.{AnswersAt, Reaches, StartAt}
use Rattle.flow_bits.specs.Reaching.Reaches.{Start as AskedStart, Edge as AskedEdge}
use Rattle.flow_solver.proofs.Lists.{listed_at, place_of}
use Rattle.flow_solver.specs.Paths.{HasNodes, IsListed}
use Rattle.ir_model.specs.declared.module.Function.{Function}
use Rattle.ir_paths.proofs.Search.{either, eq_from, eq_itself, or_left, or_right}
use Rattle.ir_paths.specs.Slots.{has_name}
use Rattle.rule_slots.specs.Names.{is_named}
use Rattle.rule_slots.specs.Steps.{AreBelow, AreLedFrom, IsLed, asked_at, is_odd, steps_of}
use Rattle.rule_slots.specs.Steps.IsLed.{Start, Step}

-- ---- the names asked at

asked-has : (names : List ℕ) (v word : ℕ) → IsListed (v, word) (asked_at names) → has_name names v ≡ true
asked-has [] v word listed = absurd listed
asked-has (n ∷ names) v word (inl e) = or_left (n == v) (has_name names v) (ap (λ (x : ℕ × ℕ). n == x.0) e ∙ eq_itself n)
asked-has (n ∷ names) v word (inr later) = or_right (n == v) (has_name names v) (asked-has names v word later)

has-asked : (names : List ℕ) (v : ℕ) → has_name names v ≡ true → IsListed (v, 1) (asked_at names)
has-asked [] v h = false≢true h
has-asked (n ∷ names) v h = by (has-asked names v) (either (n == v) (has_name names v) h)
  where
    by : (has_name names v ≡ true → IsListed (v, 1) (asked_at names)) → ((n == v) ≡ true) ⊎ (has_name names v ≡ true) → IsListed (v, 1) (asked_at (n ∷ names))
    by later (inl same) = inl (ap (λ (x : ℕ). (x, 1)) (sym (eq_from n v same)))
    by later (inr there) = inr (later there)

pub asked_below : (names : List ℕ) (starts : List (ℕ × ℕ)) (nodes : ℕ) → starts ≡ asked_at names → AreBelow names nodes → StartAt nodes starts
asked_below names starts nodes e below i node word at =
    below.each node (asked-has names node word (subst (IsListed (node, word)) e (listed_at starts i (node, word) at)))

-- ---- words and marks

ones-at : (n e : ℕ) → e < n → slice_get {X = ℕ} (replicate n 1) e ≡ Some 1
ones-at zero e lt = absurd (omega arith)
ones-at (suc n) zero lt = refl
ones-at (suc n) (suc e) lt = ones-at n e (omega arith)

odd-bit : (word : ℕ) → is_odd word ≡ true → HasBit word 0
odd-bit word e = bit_at_lowest word ∙ eq_from (word % 2) 1 e

bit-odd : (word : ℕ) → HasBit word 0 → is_odd word ≡ true
bit-odd word h = ap (λ (n : ℕ). n == 1) (sym (bit_at_lowest word) ∙ h)

mark-in : (words : List ℕ) (v word : ℕ) → slice_get words v ≡ Some word → is_named (map is_odd words) v ≡ is_odd word
mark-in words v word e = ap (λ (o : Option Bool). unwrap_or o false) (slice_get-map is_odd words v ∙ ap (option_map is_odd) e)

mark-past : (words : List ℕ) (v : ℕ) → length words ≤ v → is_named (map is_odd words) v ≡ false
mark-past words v le = ap (λ (o : Option Bool). unwrap_or o false) (slice_get-map is_odd words v ∙ ap (option_map is_odd) (slice_get_past words v le))

-- ---- paths

module _ (f : Function) (names : List ℕ) where
  abbrev ones : List ℕ
  ones = replicate (length (steps_of f)) 1

  to-led : (v : ℕ) → Reaches (steps_of f) ones (asked_at names) 0 v → IsLed f names v
  to-led _ (AskedStart v word listed has) = Start v (asked-has names v word listed)
  to-led _ (AskedEdge e u v word at kept has before) = Step u v (listed_at (steps_of f) e (u, v) at) (to-led u before)

  from-led : (v : ℕ) → IsLed f names v → Reaches (steps_of f) ones (asked_at names) 0 v
  from-led _ (Start v h) = AskedStart v 1 (has-asked names v h) refl
  from-led _ (Step u v listed before) =
      let found = place_of (steps_of f) (u, v) listed in
      AskedEdge found.0 u v 1 found.1 (ones-at (length (steps_of f)) found.0 (slice_get_within (steps_of f) found.0 (u, v) found.1)) refl (from-led u before)

  led-below : (nodes : ℕ) → AreBelow names nodes → HasNodes nodes (steps_of f) → (v : ℕ) → IsLed f names v → v < nodes
  led-below nodes below within _ (Start v h) = below.each v h
  led-below nodes below within _ (Step u v listed before) =
      let found = place_of (steps_of f) (u, v) listed in
      (within found.0 u v found.1).1

  led-are : (nodes : ℕ) (words : List ℕ) → length words ≡ nodes → AreBelow names nodes → HasNodes nodes (steps_of f) →
      ((node word : ℕ) → slice_get words node ≡ Some word → AnswersAt (steps_of f) ones (asked_at names) node word) →
      AreLedFrom f names (map is_odd words)
  led-are nodes words len below within answers = record { each = λ v. (sound v (cases_lt v (length words)), complete v) }
    where
      at : (v : ℕ) → v < length words → slice_get words v ≡ Some (get_or words v 0)
      at v lt = slice_get-get_or words v 0 lt

      sound : (v : ℕ) → (v < length words) ⊎ (length words ≤ v) → IsTrue (is_named (map is_odd words) v) → IsLed f names v
      sound v (inl lt) h =
          let word = get_or words v 0 in
          to-led v ((answers v word (at v lt)).is_reached 0 (omega arith) (odd-bit word (sym (mark-in words v word (at v lt)) ∙ h)))
      sound v (inr le) h = absurd (false≢true (sym (mark-past words v le) ∙ h))

      complete : (v : ℕ) → IsLed f names v → IsTrue (is_named (map is_odd words) v)
      complete v led =
          let word = get_or words v 0 in
          let small = led-below nodes below within v led in
          let lt : v < length words = omega (arith, small, len) in
          mark-in words v word (at v lt) ∙ bit-odd word ((answers v word (at v lt)).is_told 0 (omega arith) (from-led v led))

pub led_from_is : (f : Function) (names : List ℕ) (nodes : ℕ) (edges starts : List (ℕ × ℕ)) (kept words : List ℕ) (marks : List Bool) →
    edges ≡ steps_of f → starts ≡ asked_at names → kept ≡ replicate (length edges) 1 → marks ≡ map is_odd words →
    length words ≡ nodes → AreBelow names nodes → HasNodes nodes edges →
    ((node word : ℕ) → slice_get words node ≡ Some word → AnswersAt edges kept starts node word) →
    AreLedFrom f names marks
led_from_is f names nodes edges starts kept words marks ee es ek em len below within answers =
    subst (AreLedFrom f names) (sym em)
    (led-are f names nodes words len below (subst (HasNodes nodes) ee within)
    (λ node word e.
    subst (λ (g : List (ℕ × ℕ)). AnswersAt g (ones f names) (asked_at names) node word) ee
    (subst (λ (k : List ℕ). AnswersAt edges k (asked_at names) node word) (ek ∙ ap (λ (g : List (ℕ × ℕ)). replicate (length g) 1) ee)
    (subst (λ (s : List (ℕ × ℕ)). AnswersAt edges kept s node word) es (answers node word e)))))
