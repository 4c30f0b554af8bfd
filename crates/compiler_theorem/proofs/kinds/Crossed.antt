-- Values that cross a suspend have fields of their own.
use Rattle.std.proofs.Common.{◌≡◌, ◌≢◌, inl, inr, ⊎_elim, ℕ, zero, suc, ◌+◌, ◌<◌, ◌≤◌, List, [], ◌∷◌, ◌++◌, Option, Some, None, refl, sym, ◌∙◌, subst, arith}
use Rattle.std.proofs.lemmas.Bool.{cases_lt}
use Rattle.std.specs.List.{Contains}
use Rattle.std.specs.Prelude.{replicate, slice_get}
use Rattle.compiler_theorem.proofs.kinds.Held.{IsPlacedAs}
use Rattle.compiler_theorem.proofs.kinds.Opened.{opened}
use Rattle.compiler_theorem.proofs.kinds.Pairs.{first_field, places_differ, second_field, values_conflict}
use Rattle.compiler_theorem.specs.kinds.Held.{IsHeldAsValue}
use Rattle.compiler.specs.flow_solver.Paths.{IsListed}
use Rattle.compiler.specs.frame_contents.Held.{field_of, fields_of, position_of, value_held}
use Rattle.compiler.specs.frame_contents.declared.held.Holding.{Holding}
use Rattle.compiler.specs.frame_good.Frames.{AreInConflict}
use Rattle.compiler.specs.frame_good.Good.{AreApart, AreFit, IsGoodLayout}
use Rattle.compiler.specs.frame_layout.declared.layout.Layout.{Layout}
use Rattle.compiler.proofs.ir_laws.facts.Lists.{set_at}
use Rattle.compiler.proofs.ir_laws.paths.source_rules.Locals.{listed_either}
use Rattle.compiler.specs.ir_model.declared.module.Function.{Function}
use Rattle.compiler.specs.pass_cells.Kept.{entry, row_or, rows_from, with_pair, with_row, with_row_of}
use Rattle.compiler.specs.pass_cells.Written.{row_at}
use Rattle.compiler.specs.pass_cells.declared.plan.KeptValue.{KeptValue}
use Rattle.compiler.specs.pass_fetch.Fetching.{value_bytes}
use Rattle.compiler.specs.pass_frames.Tables.{offset_at}
use Rattle.pass_frames_meaning.specs.Kinds.{AreBehind}
use Rattle.pass_frames_meaning.proofs.pass_frames_proof.code.Names.{Kept, keeping}
use Rattle.pass_frames_meaning.proofs.pass_frames_proof.from_edges.Front.{listed_contains}
use Rattle.pass_frames_meaning.proofs.pass_frames_proof.lines.Cells.{contained}
use Rattle.pass_frames_meaning.specs.pass_frames_proof.Framings.{IsFraming}
use Rattle.pass_frames_meaning.specs.pass_frames_proof.Places.{Framing, plan}
use Rattle.pass_frames_meaning.specs.pass_frames_proof.Related.{IsKeptValue}
use Rattle.pass_frames_meaning.specs.pass_frames_proof.Slotted.{IsSlotField}

-- ---- rows have numbers of values that cross

no_rows : (count j n : ℕ) (row : List ℕ) → slice_get (replicate count []) j ≡ Some row → IsListed n row → ⊥
no_rows zero j n row e l = absurd (cc)
no_rows (suc count) zero n row e l =
    let same : [] ≡ row = cc in
    subst (IsListed n) (sym same) l
no_rows (suc count) (suc j) n row e l = no_rows count j n row e l

module _ (places : List (Option ℕ)) (all : List (ℕ × ℕ)) where
  abbrev IsFrom : ℕ → ℕ → Type 0
  IsFrom j n = (u : ℕ) × IsListed (u, j) all × (entry places u ≡ Some n)

  abbrev AreFrom : List (List ℕ) → Type 0
  AreFrom rows = (j n : ℕ) (row : List ℕ) → slice_get rows j ≡ Some row → IsListed n row → IsFrom j n

  row_from : (rows : List (List ℕ)) → AreFrom rows → (j n : ℕ) → IsListed n (row_or (slice_get rows j)) → IsFrom j n
  row_from rows h j n l = on (slice_get rows j) refl l
    where
      on : (o : Option (List ℕ)) → slice_get rows j ≡ o → IsListed n (row_or o) → IsFrom j n
      on None d k = absurd k
      on (Some row) d k = h j n row d k

  one_from : (rows : List (List ℕ)) (j k : ℕ) → AreFrom rows → IsFrom j k → AreFrom (with_row rows j k)
  one_from rows j k h is i n row e l = ⊎_elim
      (λ z. subst (λ (q : ℕ). IsFrom q n) (sym z.0) (⊎_elim
      (λ old. row_from rows h j n old)
      (λ new. last new)
      (listed_either n (row_or (slice_get rows j)) (k ∷ []) (subst (IsListed n) z.1 l))))
      (λ old. h i n row old l)
      (set_at rows j (row_or (slice_get rows j) ++ k ∷ []) i row e)
    where
      last : IsListed n (k ∷ []) → IsFrom j n
      last (inl same) = subst (IsFrom j) (sym same) is
      last (inr none) = absurd none

  pair_from : (rows : List (List ℕ)) (p : ℕ × ℕ) → IsListed p all → AreFrom rows → AreFrom (with_pair places rows p.0 p.1)
  pair_from rows p l h = on (entry places p.0) refl
    where
      on : (o : Option ℕ) → entry places p.0 ≡ o → AreFrom (with_row_of rows p.1 o)
      on None e = h
      on (Some k) e = one_from rows p.1 k h (p.0, l, e)

  all_from : (rows : List (List ℕ)) (ps : List (ℕ × ℕ)) → ((p : ℕ × ℕ) → IsListed p ps → IsListed p all) → AreFrom rows
      → AreFrom (rows_from places rows ps)
  all_from rows [] within h = h
  all_from rows (p ∷ ps) within h =
      all_from (with_pair places rows p.0 p.1) ps (λ q l. within q (inr l)) (pair_from rows p (within p (inl refl)) h)

  none_from : (count : ℕ) → AreFrom (replicate count [])
  none_from count j n row e l = absurd (no_rows count j n row e l)

module _ (x : Framing) (is : IsFraming x) where
  -- a value of which a suspend's row has the number crosses it
  pub row_crosses : (order v : ℕ) (k : KeptValue) (kept : IsKeptValue x v k)
      → IsListed kept.number (row_at (plan x).rows (Some order)) → Contains x.contents.crossing (v, order)
  row_crosses order v k kept l =
      let z = row_from (Kept x is).places x.contents.crossing (plan x).rows
      (all_from (Kept x is).places x.contents.crossing _ x.contents.crossing (λ p j. j)
      (none_from (Kept x is).places x.contents.crossing _)) order kept.number l in
      let one = (keeping x is).there z.0 kept.number z.2 in
      let other = (keeping x is).there v kept.number kept.told in
      let same : z.0 ≡ v = same_number z.0 v (sym one ∙ other) in
      subst (λ (u : ℕ). Contains x.contents.crossing (u, order)) same
      (listed_contains x.contents.crossing (z.0, order) z.1)
    where
      same_number : (u w : ℕ) → Some u ≡ Some w → u ≡ w
      same_number u w e = cc

-- ---- ranges

behind : (o m p n : ℕ) → 0 < m → 0 < n → AreApart o m p n → AreBehind o m p n
behind o m p n some other apart = ⊎_elim
    (λ (lt : p < o + m). ⊎_elim
    (λ (lt2 : o < p + n). absurd (⊎_elim
    (λ (first : o < p). apart p (omega (arith, first), lt) (omega arith, omega (arith, other)))
    (λ (first : p ≤ o). apart o (omega arith, omega (arith, some)) (first, lt2))
    (cases_lt o p)))
    (λ (le : p + n ≤ o). inr le)
    (cases_lt o (p + n)))
    (λ (le : o + m ≤ p). inl le)
    (cases_lt p (o + m))

-- ---- fields

module _ (x : Framing) (is : IsFraming x) (func : ℕ) (f : Function) (l : Layout) (layout : x.layout ≡ l)
    (good : IsGoodLayout func (fields_of f x.contents.held) (AreInConflict f x.contents) l)
    (fit : AreFit (fields_of f x.contents.held)) where
  pub value_opened : (v : ℕ) (k : KeptValue) (h : IsHeldAsValue x v k)
      → IsSlotField l (offset_at x.layout h.position) (value_bytes k.field_ty) (value_bytes k.field_ty)
  value_opened v k h =
      subst (λ (y : Layout). IsSlotField l (offset_at y h.position) (value_bytes k.field_ty) (value_bytes k.field_ty))
      (sym layout)
      (opened func f x.contents.held (AreInConflict f x.contents) l good fit h.position
      (value_held v (value_bytes k.field_ty)) h.there refl)

  pub value_field : (v position : ℕ) (k : KeptValue) → IsKeptValue x v k
      → position_of x.contents.held v ≡ Some position → (h : IsHeldAsValue x v k) → h.position ≡ position
  value_field v position k kept e h = same_number h.position position (sym h.told ∙ e)
    where
      same_number : (u w : ℕ) → Some u ≡ Some w → u ≡ w
      same_number u w d = cc

  module _ (order u v : ℕ) (k j : KeptValue) (crosses : Contains x.contents.crossing (u, order))
      (other : Contains x.contents.crossing (v, order)) (ne : u ≢ v) (one_at : IsHeldAsValue x u k)
      (other_at : IsHeldAsValue x v j) (some : 0 < value_bytes k.field_ty) (some_other : 0 < value_bytes j.field_ty) where
    abbrev one_field : Holding
    one_field = value_held u (value_bytes k.field_ty)

    abbrev other_field : Holding
    other_field = value_held v (value_bytes j.field_ty)

    abbrev one : IsPlacedAs x.contents.held one_field
    one = record { position = one_at.position; told = one_at.told; there = one_at.there }

    abbrev two : IsPlacedAs x.contents.held other_field
    two = record { position = other_at.position; told = other_at.told; there = other_at.there }

    not_same : one_at.position ≢ other_at.position
    not_same = places_differ x.contents one_field other_field one two ne

    in_conflict : AreInConflict f x.contents one_at.position other_at.position
    in_conflict = values_conflict f x.contents one_field other_field one two not_same order
        (contained x.contents.crossing (u, order) crosses) (contained x.contents.crossing (v, order) other)

    pub values_behind : AreBehind (offset_at x.layout one_at.position) (value_bytes k.field_ty)
        (offset_at x.layout other_at.position) (value_bytes j.field_ty)
    values_behind =
        subst (λ (y : Layout). AreBehind (offset_at y one_at.position) (value_bytes k.field_ty)
        (offset_at y other_at.position) (value_bytes j.field_ty)) (sym layout)
        (behind (offset_at l one_at.position) (value_bytes k.field_ty) (offset_at l other_at.position)
        (value_bytes j.field_ty) some some_other
        (good.apart one_at.position other_at.position (field_of f one_field) (field_of f other_field)
        (first_field f x.contents one_field other_field one two not_same)
        (second_field f x.contents one_field other_field one two not_same) not_same in_conflict))
