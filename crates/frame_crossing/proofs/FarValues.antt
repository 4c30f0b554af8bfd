-- Values that are used in no block but those that make them before, and by no phi, cross nothing.
use Rattle.std.proofs.Common.{◌≡◌, ℕ, zero, suc, ◌+◌, ◌/◌, ◌%◌, ◌⊎◌, Bool, true, false, List, [], ◌∷◌, ◌++◌, filter, length, Some, Option, refl, sym, ap, ◌∙◌, subst, ⊎_elim, inl, inr, arith}
use Rattle.std.specs.Prelude.{bit_or, slice_get, if◌then◌else◌, ◌==◌, ◌||◌}
use Rattle.std.specs.Int.{bit_at}
use Rattle.std.proofs.lemmas.Bool.{eq-eqb, eqb-true, false≢true}
use Rattle.std.proofs.lemmas.List.{append-nil}
use Rattle.std.proofs.lemmas.List.Elements.{filter-append}
use Rattle.std.proofs.lemmas.Option.{slice_get_within}
use Rattle.flow_bits.specs.Bits.{HasBit}
use Rattle.rule_uses.specs.Questions.{value_word}
use Rattle.flow_solver.proofs.Lists.{place_of}
use Rattle.flow_solver.specs.Paths.{IsListed}
use Rattle.ir_model.specs.declared.module.Block.{Block}
use Rattle.ir_model.specs.declared.module.Function.{Function}
use Rattle.ir_paths.specs.Slots.{has_name}
use Rattle.ir_paths.specs.Windows.{destroy_label, resume_label}
use Rattle.ir_paths.specs.declared.point.Point.{Point}
use Rattle.frame_crossing.proofs.Bits.{IsOwn, left_bit, own_bit, right_bit}
use Rattle.frame_crossing.proofs.Blocks.{get_behind, one_further}
use Rattle.frame_crossing.proofs.Made.{open_some}
use Rattle.frame_crossing.proofs.Numbering.{place_of_name}
use Rattle.frame_crossing.proofs.Solving.{in_filter}
use Rattle.frame_crossing.proofs.Walks.{IsNeededIn, IsOpenIn, from_edge}
use Rattle.frame_crossing.proofs.Walks.IsNeededIn.{Open, ByUse, ByEdge}
use Rattle.frame_crossing.specs.Crossing.{AreCrossed, CrossedBy, Crosses, suspends_of}
use Rattle.frame_crossing.specs.Crossing.AreCrossed.{NoMore, LeftOut}
use Rattle.frame_crossing.specs.Crossing.CrossedBy.{Nothing, More}
use Rattle.frame_crossing.specs.EdgeUses.{IsUsedOn, edge_use, edge_uses}
use Rattle.frame_crossing.specs.Paths.{IsNeededBehind}
use Rattle.frame_crossing.specs.Values.{distinct, values_of, with_new}
use Rattle.frame_crossing.specs.Words.{AreNumbered, block_open, far_mask, is_far, is_far_at, opens_mask, uses_mask}
use Rattle.frame_crossing.specs.declared.edge_use.EdgeUse.{EdgeUse}

-- ---- what the mask has

module _ (f : Function) (numbers : List (Option ℕ)) (chunk v c : ℕ) (o : IsOwn numbers chunk v c) where
  opens_kept : (word : ℕ) (bs : List Block) → HasBit word c → HasBit (opens_mask numbers chunk word bs) c
  opens_kept word [] h = h
  opens_kept word (b ∷ bs) h = opens_kept (bit_or word (block_open numbers chunk b)) bs (left_bit word (block_open numbers chunk b) c h)

  opens_has : (word : ℕ) (bs : List Block) (k : ℕ) → IsOpenIn v (slice_get bs k) → HasBit (opens_mask numbers chunk word bs) c
  opens_has word [] k h = absurd h
  opens_has word (b ∷ bs) zero h = opens_kept (bit_or word (block_open numbers chunk b)) bs (right_bit word (block_open numbers chunk b) c (open_some numbers chunk v c o (Some b) h))
  opens_has word (b ∷ bs) (suc k) h = opens_has (bit_or word (block_open numbers chunk b)) bs k h

  uses_kept : (word : ℕ) (us : List EdgeUse) → HasBit word c → HasBit (uses_mask numbers chunk word us) c
  uses_kept word [] h = h
  uses_kept word (u ∷ us) h = uses_kept (bit_or word (value_word numbers chunk u.value)) us (left_bit word (value_word numbers chunk u.value) c h)

  uses_has : (word : ℕ) (us : List EdgeUse) (u : EdgeUse) → IsListed u us → u.value ≡ v → HasBit (uses_mask numbers chunk word us) c
  uses_has word [] u h e = absurd h
  uses_has word (x ∷ us) u h e = ⊎_elim
      (λ same. uses_kept (bit_or word (value_word numbers chunk x.value)) us (right_bit word (value_word numbers chunk x.value) c (subst (λ (n : ℕ). HasBit (value_word numbers chunk n) c) (sym (ap (λ (y : EdgeUse). y.value) (sym same) ∙ e)) o.own)))
      (λ later. uses_has (bit_or word (value_word numbers chunk x.value)) us u later e)
      h

  abbrev mask : ℕ
  mask = far_mask numbers chunk f.blocks (edge_uses f)

  used_far : (from to : ℕ) → IsUsedOn f v from to → HasBit mask c
  used_far from to used = uses_has (opens_mask numbers chunk 0 f.blocks) (edge_uses f) (edge_use from to v) used refl

  needed_far : (b : ℕ) → IsNeededIn f v b → HasBit mask c
  needed_far _ (Open b out h) = uses_kept (opens_mask numbers chunk 0 f.blocks) (edge_uses f) (opens_has 0 f.blocks b h)
  needed_far _ (ByUse from to out none edge used) = used_far from to used
  needed_far _ (ByEdge from to out none edge needed) = needed_far to needed

  either_far : (b to : ℕ) → IsUsedOn f v b to ⊎ IsNeededIn f v to → HasBit mask c
  either_far b to h = ⊎_elim (λ used. used_far b to used) (λ n. needed_far to n) h

  behind_far : (s : Point) → IsNeededBehind f v s → HasBit mask c
  behind_far s n = ⊎_elim
      (λ r. either_far s.block (Rattle.ir_model.specs.Names.position_of f (resume_label f s)) (from_edge f v s.block (resume_label f s) r))
      (λ d. either_far s.block (Rattle.ir_model.specs.Names.position_of f (destroy_label f s)) (from_edge f v s.block (destroy_label f s) d))
      n

-- a value that crosses is one of those
far_by : (f : Function) (numbers : List (Option ℕ)) (values : List ℕ) → AreNumbered (length f.names) numbers values → (v k : ℕ) → slice_get numbers v ≡ Some (Some k) → (s : Point) → Crosses f v s → is_far numbers f.blocks (edge_uses f) v ≡ true
far_by f numbers values n v k at s x =
    ap (is_far_at numbers f.blocks (edge_uses f)) at
    ∙ eq-eqb (bit_at (far_mask numbers (k / 64) f.blocks (edge_uses f)) (k % 64)) 1 (behind_far f numbers (k / 64) v (k % 64) (own_bit (length f.names) numbers values n.numbering (k / 64) v k at refl) s x.needed)

never_crosses : (f : Function) (numbers : List (Option ℕ)) (values : List ℕ) → AreNumbered (length f.names) numbers values → (v : ℕ) → IsListed v values → is_far numbers f.blocks (edge_uses f) v ≡ false → (s : Point) → Crosses f v s → ⊥
never_crosses f numbers values n v h off s x =
    let found : (k : ℕ) × (slice_get values k ≡ Some v) = place_of values v h in
    false≢true (sym off ∙ far_by f numbers values n v found.0 (n.numbered v found.0 found.1) s x)

-- ---- the pairs of fewer values are those of all

none_here : (f : Function) (v k : ℕ) (ss : List Point) → ((s : Point) → Crosses f v s → ⊥) → AreCrossed f v k ss []
none_here f v k [] none = NoMore k
none_here f v k (s ∷ ss) none = LeftOut k s ss [] (none s) (none_here f v (k + 1) ss none)

record IsFirst (f : Function) (v : ℕ) (vs : List ℕ) (pairs : List (ℕ × ℕ)) : Type 0 where
  here : List (ℕ × ℕ)
  rest : List (ℕ × ℕ)
  is_here : AreCrossed f v 0 (suspends_of f) here
  is_rest : CrossedBy f vs rest
  is_all : pairs ≡ here ++ rest

abbrev Parts : Function → List ℕ → List (ℕ × ℕ) → Type 0
Parts f [] pairs = pairs ≡ []
Parts f (v ∷ vs) pairs = IsFirst f v vs pairs

parts : (f : Function) (vs : List ℕ) (pairs : List (ℕ × ℕ)) → CrossedBy f vs pairs → Parts f vs pairs
parts f _ _ Nothing = refl
parts f _ _ (More v vs here rest a b) = record { here = here; rest = rest; is_here = a; is_rest = b; is_all = refl }

module _ (f : Function) (p : ℕ → Bool) where
  one_wider : (v : ℕ) (vs : List ℕ) (pairs : List (ℕ × ℕ)) → ((rest : List (ℕ × ℕ)) → CrossedBy f (filter p vs) rest → CrossedBy f vs rest) → (p v ≡ false → (s : Point) → Crosses f v s → ⊥) → (b : Bool) → p v ≡ b → CrossedBy f (if b then v ∷ filter p vs else filter p vs) pairs → CrossedBy f (v ∷ vs) pairs
  one_wider v vs pairs later none true e c =
      let first : IsFirst f v (filter p vs) pairs = parts f (v ∷ filter p vs) pairs c in
      subst (CrossedBy f (v ∷ vs)) (sym first.is_all) (More v vs first.here first.rest first.is_here (later first.rest first.is_rest))
  one_wider v vs pairs later none false e c = More v vs [] pairs (none_here f v 0 (suspends_of f) (none e)) (later pairs c)

  wider : (vs : List ℕ) (pairs : List (ℕ × ℕ)) → ((v : ℕ) → IsListed v vs → p v ≡ false → (s : Point) → Crosses f v s → ⊥) → CrossedBy f (filter p vs) pairs → CrossedBy f vs pairs
  wider [] pairs none c = c
  wider (v ∷ vs) pairs none c = one_wider v vs pairs (λ rest d. wider vs rest (λ u h. none u (inr h)) d) (none v (inl refl)) (p v) refl c

pub all_are_crossed : (f : Function) (numbers : List (Option ℕ)) (known far : List ℕ) (phis : List EdgeUse) (pairs : List (ℕ × ℕ)) → AreNumbered (length f.names) numbers known → known ≡ values_of f → phis ≡ edge_uses f → far ≡ filter (is_far numbers f.blocks phis) known → CrossedBy f far pairs → CrossedBy f (values_of f) pairs
all_are_crossed f numbers known far phis pairs n known_are phis_are far_are c =
    subst (λ (l : List ℕ). CrossedBy f l pairs) known_are
    (wider f (is_far numbers f.blocks (edge_uses f)) known pairs (λ v h off. never_crosses f numbers known n v h off)
    (subst (λ (l : List ℕ). CrossedBy f l pairs) (far_are ∙ ap (λ (u : List EdgeUse). filter (is_far numbers f.blocks u) known) phis_are) c))

pub far_are_values : (f : Function) (numbers : List (Option ℕ)) (known far : List ℕ) (phis : List EdgeUse) → known ≡ values_of f → far ≡ filter (is_far numbers f.blocks phis) known → (v : ℕ) → IsListed v far → IsListed v (values_of f)
far_are_values f numbers known far phis known_are far_are v h = subst (IsListed v) known_are (in_filter (is_far numbers f.blocks phis) v known (subst (IsListed v) far_are h)).0

-- ---- fewer values, each once

by_name : (p : ℕ → Bool) (u v : ℕ) (us : List ℕ) → p v ≡ true → has_name (filter p us) v ≡ has_name us v → (b : Bool) → p u ≡ b → has_name (if b then u ∷ filter p us else filter p us) v ≡ ((u == v) || has_name us v)
by_name p u v us e later true is = ap (λ (b : Bool). (u == v) || b) later
by_name p u v us e later false is = later ∙ on (u == v) refl
  where
    on : (b : Bool) → (u == v) ≡ b → has_name us v ≡ (b || has_name us v)
    on true same = absurd (false≢true (sym is ∙ ap p (eqb-true u v same) ∙ e))
    on false same = refl

name_in : (p : ℕ → Bool) (v : ℕ) (us : List ℕ) → p v ≡ true → has_name (filter p us) v ≡ has_name us v
name_in p v [] e = refl
name_in p v (u ∷ us) e = by_name p u v us e (name_in p v us e) (p u) refl

last_kept : (p : ℕ → Bool) (found : List ℕ) (v : ℕ) → p v ≡ true → filter p (found ++ v ∷ []) ≡ filter p found ++ v ∷ []
last_kept p found v e = filter-append p found (v ∷ []) ∙ ap (λ (b : Bool). filter p found ++ (if b then v ∷ [] else [])) e

last_left : (p : ℕ → Bool) (found : List ℕ) (v : ℕ) → p v ≡ false → filter p (found ++ v ∷ []) ≡ filter p found
last_left p found v e = filter-append p found (v ∷ []) ∙ ap (λ (b : Bool). filter p found ++ (if b then v ∷ [] else [])) e ∙ append-nil (filter p found)

new_kept : (p : ℕ → Bool) (found : List ℕ) (v : ℕ) → p v ≡ true → with_new (filter p found) v ≡ filter p (with_new found v)
new_kept p found v e = ap (λ (b : Bool). if b then filter p found else filter p found ++ v ∷ []) (name_in p v found e) ∙ on (has_name found v)
  where
    on : (b : Bool) → (if b then filter p found else filter p found ++ v ∷ []) ≡ filter p (if b then found else found ++ v ∷ [])
    on true = refl
    on false = sym (last_kept p found v e)

new_left : (p : ℕ → Bool) (found : List ℕ) (v : ℕ) → p v ≡ false → filter p (with_new found v) ≡ filter p found
new_left p found v e = on (has_name found v)
  where
    on : (b : Bool) → filter p (if b then found else found ++ v ∷ []) ≡ filter p found
    on true = refl
    on false = last_left p found v e

by_value : (p : ℕ → Bool) (found : List ℕ) (v : ℕ) (vs : List ℕ) → distinct (filter p (with_new found v)) (filter p vs) ≡ filter p (distinct (with_new found v) vs) → (b : Bool) → p v ≡ b → distinct (filter p found) (if b then v ∷ filter p vs else filter p vs) ≡ filter p (distinct (with_new found v) vs)
by_value p found v vs later true e = ap (λ (l : List ℕ). distinct l (filter p vs)) (new_kept p found v e) ∙ later
by_value p found v vs later false e = ap (λ (l : List ℕ). distinct l (filter p vs)) (sym (new_left p found v e)) ∙ later

distinct_filter : (p : ℕ → Bool) (found vs : List ℕ) → distinct (filter p found) (filter p vs) ≡ filter p (distinct found vs)
distinct_filter p found [] = refl
distinct_filter p found (v ∷ vs) = by_value p found v vs (distinct_filter p (with_new found v) vs) (p v) refl

front_get : {X : Type 0} (xs rest : List X) (k : ℕ) (x : X) → slice_get xs k ≡ Some x → slice_get (xs ++ rest) k ≡ Some x
front_get [] rest k x e = absurd (cc)
front_get (y ∷ xs) rest zero x e = e
front_get (y ∷ xs) rest (suc k) x e = front_get xs rest k x e

some_numbers : (j k : ℕ) → Some (Some j) ≡ Some (Some k) → j ≡ k
some_numbers j k e = inner j k (outer (Some j) (Some k) e)
  where
    outer : (a b : Option ℕ) → Some a ≡ Some b → a ≡ b
    outer a b e = cc

    inner : (a b : ℕ) → Some a ≡ Some b → a ≡ b
    inner a b e = cc

no_repeat : (names : ℕ) (numbers : List (Option ℕ)) (values : List ℕ) → AreNumbered names numbers values → (front rest : List ℕ) → values ≡ front ++ rest → distinct front rest ≡ front ++ rest
no_repeat names numbers values n front [] e = sym (append-nil front)
no_repeat names numbers values n front (v ∷ vs) e =
    ap (λ (b : Bool). distinct (if b then front else front ++ v ∷ []) vs) (is_new (has_name front v) refl)
    ∙ no_repeat names numbers values n (front ++ v ∷ []) vs (one_further values front v vs e)
    ∙ sym (one_further (front ++ v ∷ vs) front v vs refl)
  where
    is_new : (b : Bool) → has_name front v ≡ b → b ≡ false
    is_new true h =
        let found : (j : ℕ) × (slice_get front j ≡ Some v) = place_of_name front v h in
        let first : slice_get numbers v ≡ Some (Some found.0) = n.numbered v found.0 (ap (λ (l : List ℕ). slice_get l found.0) e ∙ front_get front (v ∷ vs) found.0 v found.1) in
        let second : slice_get numbers v ≡ Some (Some (length front)) = n.numbered v (length front) (ap (λ (l : List ℕ). slice_get l (length front)) e ∙ get_behind front v vs) in
        let same : found.0 ≡ length front = some_numbers found.0 (length front) (sym first ∙ second) in
        let lt = slice_get_within front found.0 v found.1 in
        absurd (omega (arith, same, lt))
    is_new false h = refl

pub far_once : (names : ℕ) (numbers : List (Option ℕ)) (values far xs result : List ℕ) (p : ℕ → Bool) → AreNumbered names numbers values → far ≡ filter p values → xs ≡ far → result ≡ distinct [] xs → result ≡ filter p values
far_once names numbers values far xs result p n far_are xs_are is =
    is
    ∙ ap (distinct []) (xs_are ∙ far_are)
    ∙ distinct_filter p [] values
    ∙ ap (filter p) (no_repeat names numbers values n [] values refl)
