-- The names whose addresses are among some names, found along the edges from getelementptrs to their bases.
use Rattle.std.proofs.Common.{◌≡◌, ℕ, zero, suc, ◌<◌, inl, inr, true, List, [], ◌∷◌, length, map, replicate, Option, Some, None, refl, ap, sym, ◌∙◌, subst, ⊎_elim, arith}
use Rattle.std.specs.Prelude.{Err, IfOk, IsTrue, Ok, Result, slice_get, unwrap_or, ◌==◌}
use Rattle.std.specs.Int.{bit_at}
use Rattle.std.proofs.lemmas.Nat.Bits.{bit_at-zero}
use Rattle.flow_bits.specs.Bits.{HasBit}
use Rattle.flow_bits.specs.Reaching.{AnswersAt, Reaches, StartAt}
use Rattle.ir_model.specs.declared.module.Function.{Function}
use Rattle.flow_points.proofs.ir_paths.Search.{eq_from, eq_itself}
use Rattle.flow_points.specs.ir_paths.Slots.{has_name}
use Rattle.flow_solver.proofs.Lists.{listed_at, place_of}
use Rattle.flow_solver.specs.Paths.{HasNodes, IsListed}
use Rattle.flow_facts.proofs.Above.{AreBelow}
use Rattle.flow_facts.proofs.Chained.{IsAddress, address-complete, address-front, address-sound, listed-name, name-listed}
use Rattle.flow_facts.specs.Chains.{AreLedBack, LeadsTo, bases_by}

abbrev pub asked_at : List ℕ → List (ℕ × ℕ)
asked_at names = map (λ (v : ℕ). (v, 1)) names

listed-asked : (p : ℕ × ℕ) (names : List ℕ) → IsListed p (asked_at names) → IsListed p.0 names
listed-asked p [] h = absurd h
listed-asked p (x ∷ xs) h = ⊎_elim (λ e. inl (ap (λ (q : ℕ × ℕ). q.0) e)) (λ later. inr (listed-asked p xs later)) h

asked-listed : (v : ℕ) (names : List ℕ) → IsListed v names → IsListed (v, 1) (asked_at names)
asked-listed v [] h = absurd h
asked-listed v (x ∷ xs) h = ⊎_elim (λ e. inl (ap (λ (y : ℕ). (y, 1)) e)) (λ later. inr (asked-listed v xs later)) h

pub starts-below : (nodes : ℕ) (names : List ℕ) → AreBelow nodes names → StartAt nodes (asked_at names)
starts-below nodes names below i node word at =
    below node (listed-name node names (listed-asked (node, word) names (listed_at (asked_at names) i (node, word) at)))

one-word : {A : Type 0} (xs : List A) (e : ℕ) (x : A) → slice_get xs e ≡ Some x → slice_get {X = ℕ} (replicate (length xs) 1) e ≡ Some 1
one-word [] e x h = absurd (cc)
one-word (y ∷ xs) zero x h = refl
one-word (y ∷ xs) (suc e) x h = one-word xs e x h

bit-none : (o : Option ℕ) → o ≡ None → (bit_at (unwrap_or o 0) 0 == 1) ≡ true → ⊥
bit-none None e h = let z = bit_at-zero 0 in let k = eq_from (bit_at 0 0) 1 h in omega (arith, z, k)
bit-none (Some w) e h = absurd (cc)

module _ (f : Function) (names : List ℕ) (nodes : ℕ) (below : AreBelow nodes names) (edges_in : HasNodes nodes (bases_by f.blocks)) where
  abbrev ones : List ℕ
  ones = replicate (length (bases_by f.blocks)) 1

  abbrev IsReached : ℕ → Type 0
  IsReached a = Reaches (bases_by f.blocks) ones (asked_at names) 0 a

  reached-inside : (a : ℕ) → IsReached a → a < nodes
  reached-inside _ (Reaches.Start node word listed has) = below node (listed-name node names (listed-asked (node, word) names listed))
  reached-inside _ (Reaches.Edge e from to word at kept has before) = (edges_in e from to at).1

  to-lead : (a : ℕ) → IsReached a → (v : ℕ) × (IsTrue (has_name names v) × IsAddress (bases_by f.blocks) a v)
  to-lead _ (Reaches.Start node word listed has) = (node, (listed-name node names (listed-asked (node, word) names listed), IsAddress.Own))
  to-lead _ (Reaches.Edge e from to word at kept has before) =
      let found = to-lead from before in
      (found.0, (found.1.0, address-front (bases_by f.blocks) to from found.0 (listed_at (bases_by f.blocks) e (from, to) at) found.1.1))

  back : (a v : ℕ) → IsAddress (bases_by f.blocks) a v → IsReached v → IsReached a
  back a _ IsAddress.Own h = h
  back a _ (IsAddress.Next u w listed rest) h =
      let found = place_of (bases_by f.blocks) (w, u) listed in
      back a u rest (Reaches.Edge found.0 w u 1 found.1 (one-word (bases_by f.blocks) found.0 (w, u) found.1) refl h)

  pub are-led-back : (words : List ℕ) → length words ≡ nodes → ((node word : ℕ) → slice_get words node ≡ Some word → AnswersAt (bases_by f.blocks) ones (asked_at names) node word) → AreLedBack f names words
  are-led-back words len answers = record { each = λ a. (sound a (slice_get words a) refl, complete a) }
    where
      sound : (a : ℕ) (o : Option ℕ) → slice_get words a ≡ o → IsTrue (bit_at (unwrap_or (slice_get words a) 0) 0 == 1) → LeadsTo f names a
      sound a None e h = absurd (bit-none (slice_get words a) e h)
      sound a (Some w) e h =
          let has : HasBit w 0 = eq_from (bit_at w 0) 1 (ap (λ (o : Option ℕ). bit_at (unwrap_or o 0) 0 == 1) (sym e) ∙ h) in
          let found = to-lead a ((answers a w e).is_reached 0 (omega arith) has) in
          record { address = found.0; is_address = address-complete f a found.0 found.1.1; is_named = found.1.0 }

      word-at : (xs : List ℕ) (a : ℕ) → a < length xs → slice_get xs a ≡ Some (unwrap_or (slice_get xs a) 0)
      word-at [] a lt = absurd (omega arith)
      word-at (x ∷ xs) zero lt = refl
      word-at (x ∷ xs) (suc a) lt = word-at xs a (omega arith)

      complete : (a : ℕ) → LeadsTo f names a → IsTrue (bit_at (unwrap_or (slice_get words a) 0) 0 == 1)
      complete a l =
          let r = back a l.address (address-sound f a l.address l.is_address) (Reaches.Start l.address 1 (asked-listed l.address names (name-listed l.address names l.is_named)) refl) in
          let lt = reached-inside a r in
          let has : HasBit (unwrap_or (slice_get words a) 0) 0 = (answers a (unwrap_or (slice_get words a) 0) (word-at words a (omega (arith, lt, len)))).is_told 0 (omega arith) r in
          subst (λ n. (n == 1) ≡ true) (sym has) (eq_itself 1)

pub led-back-by : (f : Function) (names : List ℕ) (nodes : ℕ) (edges starts : List (ℕ × ℕ)) (kept words : List ℕ) → edges ≡ bases_by f.blocks → starts ≡ asked_at names → kept ≡ replicate (length edges) 1 → AreBelow nodes names → HasNodes nodes edges →
    length words ≡ nodes → ((node word : ℕ) → slice_get words node ≡ Some word → AnswersAt edges kept starts node word) → AreLedBack f names words
led-back-by f names nodes edges starts kept words edges_is starts_is kept_is below inside len answers =
    are-led-back f names nodes below (subst (HasNodes nodes) edges_is inside) words len
    (λ node word at.
    subst (λ s. AnswersAt (bases_by f.blocks) (replicate (length (bases_by f.blocks)) 1) s node word) starts_is
    (subst (λ (e : List (ℕ × ℕ)). AnswersAt e (replicate (length e) 1) starts node word) edges_is
    (subst (λ k. AnswersAt edges k starts node word) kept_is (answers node word at))))

pub if-ok-both : {T E : Type 0} (r : Result T E) (P Q R : T → Type 0) → ((x : T) → P x → Q x → R x) → IfOk r P → IfOk r Q → IfOk r R
if-ok-both (Ok x) P Q R h p q = h x p q
if-ok-both (Err e) P Q R h p q = tt
