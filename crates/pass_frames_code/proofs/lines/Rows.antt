-- The row of a suspend has the values that cross it, so their fields are right once the row is saved.
use Rattle.std.proofs.Common.{◌≡◌, inl, inr, ⊎_elim, ℕ, ◌+◌, ◌<◌, ◌≤◌, List, [], ◌∷◌, ◌++◌, length, refl, sym, ap, ◌∙◌, subst, arith}
use Rattle.std.proofs.lemmas.List.{length-replicate}
use Rattle.std.specs.List.{Contains}
use Rattle.std.specs.Prelude.{None, Option, Some, get_or, replicate, slice_get, slice_set}
use Rattle.pass_proofs.specs.flow_solver.Paths.{IsListed}
use Rattle.pass_proofs.specs.frame_contents.Held.{position_of}
use Rattle.pass_proofs.proofs.ir_laws.facts.Lists.{get_within, set_here, set_length, set_other}
use Rattle.pass_proofs.proofs.ir_laws.facts.Truth.{is_number}
use Rattle.pass_proofs.proofs.ir_laws.paths.source_rules.Locals.{listed_left, listed_right}
use Rattle.pass_proofs.specs.pass_cells.Kept.{entry, row_or, rows_from, with_pair, with_row_of}
use Rattle.pass_proofs.specs.pass_cells.Links.{field_name}
use Rattle.pass_proofs.specs.pass_cells.Written.{row_at}
use Rattle.pass_proofs.specs.pass_cells.declared.plan.KeptValue.{KeptValue}
use Rattle.pass_proofs.specs.pass_copies.Slots.{slot_names}
use Rattle.pass_proofs.specs.pass_fetch.Fetching.{value_bytes}
use Rattle.pass_proofs.specs.pass_frames.Tables.{offset_at}
use Rattle.pass_proofs.specs.pass_intrinsics.Shapes.{suspends_of}
use Rattle.pass_frames_code.proofs.code.Left.{Far, far_written, longer}
use Rattle.pass_frames_code.proofs.code.Names.{Count, First, Kept, keeping, numbered}
use Rattle.pass_frames_code.proofs.lines.Cells.{contained}
use Rattle.pass_frames_code.proofs.offsets.Tables.{fields_told}
use Rattle.pass_proofs.proofs.cells.rules.Fronts.{IsNumbered}
use Rattle.pass_frames_code.specs.Framings.{IsFraming}
use Rattle.pass_frames_code.specs.Places.{Framing, copies, edged, offsets, plan, with_copies, written}
use Rattle.pass_frames_code.specs.Related.{AreFieldsRight, IsKeptAs, IsKeptValue}
use Rattle.pass_frames_code.specs.Saves.{HoldsField}
use Rattle.pass_proofs.specs.run_laws.access.Lines.{Holds}
use Rattle.pass_proofs.specs.run_laws.memory.Pointers.{Home}
use Rattle.pass_proofs.specs.run_memory.Memory.{Rights, decode}
use Rattle.pass_proofs.specs.run_memory.declared.block.Byte.{Byte}
use Rattle.pass_proofs.specs.run_memory.declared.block.MemoryBlock.{MemoryBlock}
use Rattle.pass_proofs.specs.run_step.Values.{Env, access_of}

-- ---- rows

-- a row in which something stands is there
row_there : (rows : List (List ℕ)) (j n : ℕ) → IsListed n (row_or (slice_get rows j)) → j < length rows
row_there rows j n l = on (slice_get rows j) refl l
  where
    on : (o : Option (List ℕ)) → slice_get rows j ≡ o → IsListed n (row_or o) → j < length rows
    on None e h = absurd h
    on (Some row) e h = get_within rows j row e

row_set : (rows : List (List ℕ)) (i j n k : ℕ) → IsListed n (row_or (slice_get rows j))
    → IsListed n (row_or (slice_get (slice_set rows i (row_or (slice_get rows i) ++ k ∷ [])) j))
row_set rows i j n k l =
    ⊎_elim
    (λ (e : i ≡ j).
    subst (λ (z : ℕ). IsListed n (row_or (slice_get (slice_set rows z (row_or (slice_get rows z) ++ k ∷ [])) j)))
    (sym e)
    (subst (λ (o : Option (List ℕ)). IsListed n (row_or o))
    (sym (set_here rows j (row_or (slice_get rows j) ++ k ∷ []) (row_there rows j n l)))
    (listed_left n (row_or (slice_get rows j)) (k ∷ []) l)))
    (λ d. subst (λ (o : Option (List ℕ)). IsListed n (row_or o))
    (sym (set_other rows i j (row_or (slice_get rows i) ++ k ∷ []) d)) l)
    (is_number i j)

one_stays : (rows : List (List ℕ)) (i j n : ℕ) (o : Option ℕ) → IsListed n (row_or (slice_get rows j))
    → IsListed n (row_or (slice_get (with_row_of rows i o) j))
one_stays rows i j n None l = l
one_stays rows i j n (Some k) l = row_set rows i j n k l

module _ (places : List (Option ℕ)) where
  rows_stay : (ps : List (ℕ × ℕ)) (rows : List (List ℕ)) (j n : ℕ) → IsListed n (row_or (slice_get rows j))
      → IsListed n (row_or (slice_get (rows_from places rows ps) j))
  rows_stay [] rows j n l = l
  rows_stay (p ∷ ps) rows j n l =
      rows_stay ps (with_pair places rows p.0 p.1) j n (one_stays rows p.1 j n (entry places p.0) l)

  one_long : (rows : List (List ℕ)) (j : ℕ) (o : Option ℕ) → length (with_row_of rows j o) ≡ length rows
  one_long rows j None = refl
  one_long rows j (Some k) = set_length rows j (row_or (slice_get rows j) ++ k ∷ [])

  one_there : (rows : List (List ℕ)) (v j k : ℕ) → entry places v ≡ Some k → j < length rows
      → IsListed k (row_or (slice_get (with_pair places rows v j) j))
  one_there rows v j k e lt =
      subst (λ (o : Option ℕ). IsListed k (row_or (slice_get (with_row_of rows j o) j))) (sym e)
      (subst (λ (o : Option (List ℕ)). IsListed k (row_or o))
      (sym (set_here rows j (row_or (slice_get rows j) ++ k ∷ []) lt))
      (listed_right k (row_or (slice_get rows j)) (k ∷ []) (inl refl)))

  all_there : (ps : List (ℕ × ℕ)) (rows : List (List ℕ)) (v j k : ℕ) → IsListed (v, j) ps → entry places v ≡ Some k
      → j < length rows → IsListed k (row_or (slice_get (rows_from places rows ps) j))
  all_there [] rows v j k l e lt = absurd l
  all_there (p ∷ ps) rows v j k (inl same) e lt =
      rows_stay ps (with_pair places rows p.0 p.1) j k
      (subst (λ (q : ℕ × ℕ). IsListed k (row_or (slice_get (with_pair places rows q.0 q.1) j))) same
      (one_there rows v j k e lt))
  all_there (p ∷ ps) rows v j k (inr l) e lt =
      let long : length (with_pair places rows p.0 p.1) ≡ length rows = one_long rows p.1 (entry places p.0) in
      all_there ps (with_pair places rows p.0 p.1) v j k l e (omega (arith, long, lt))

-- ---- the row of a suspend

module _ (x : Framing) (is : IsFraming x) where
  pub crossing_listed : (v suspend : ℕ) (k : KeptValue) → (kept : IsKeptValue x v k)
      → Contains x.contents.crossing (v, suspend) → suspend < length (suspends_of (edged x))
      → IsListed kept.number (row_at (plan x).rows (Some suspend))
  crossing_listed v suspend k kept c lt =
      let long : length (replicate {A = List ℕ} (length (suspends_of (edged x))) []) ≡ length (suspends_of (edged x)) =
      length-replicate (length (suspends_of (edged x))) [] in
      all_there (Kept x is).places x.contents.crossing (replicate (length (suspends_of (edged x))) []) v suspend
      kept.number (contained x.contents.crossing (v, suspend) c) kept.told (omega (arith, long, lt))

  -- the field of a kept value lies where its place is
  pub field_placed : (v position : ℕ) (k : KeptValue) → (kept : IsKeptValue x v k)
      → position_of x.contents.held v ≡ Some position
      → slice_get (offsets x) k.field ≡ Some (Some (offset_at x.layout position))
  field_placed v position k kept e =
      let n : IsNumbered (First x is) (Count x is) kept.number k = numbered x is kept.number k kept.there in
      let here : slice_get (Kept x is).values kept.number ≡ Some v = (keeping x is).there v kept.number kept.told in
      let told : get_or x.contents.positions v None ≡ Some position =
      is.frameable.contents.positions_are v ∙ e in
      let lt : kept.number < Count x is = get_within (Kept x is).values kept.number v here in
      let far : Far x is ≤ length (written x).names = far_written x is in
      let one : length (written x).names ≤ length ((written x).names ++ slot_names (length (copies x).slots)) =
      longer (written x).names (slot_names (length (copies x).slots)) in
      let two : length ((written x).names ++ slot_names (length (copies x).slots)) ≤ length (with_copies x).names =
      longer ((written x).names ++ slot_names (length (copies x).slots)) _ in
      let low : field_name (First x is) (Count x is) kept.number < length (with_copies x).names =
      omega (arith, lt, far, one, two) in
      ap (slice_get (offsets x)) n.field
      ∙ fields_told x.layout x.function x.contents (length (with_copies x).names) kept.number v position here told low

  pub fields_right : (homes : List Home) (rights : Rights) (m : List MemoryBlock) (suspend : ℕ) (env : Env)
      (block start : ℕ) → suspend < length (suspends_of (edged x))
      → ((v : ℕ) (k : KeptValue) → (kept : IsKeptValue x v k)
      → IsListed kept.number (row_at (plan x).rows (Some suspend))
      → HoldsField x rights m block start k (IsKeptAs homes env v k k.slot))
      → AreFieldsRight x homes rights m suspend env block start
  fields_right homes rights m suspend env block start lt held =
      record {
        each = λ v position k kept c e. placed v position k kept e (held v k kept (crossing_listed v
            suspend k kept c lt));
      }
    where
      placed : (v position : ℕ) (k : KeptValue) → (kept : IsKeptValue x v k)
          → position_of x.contents.held v ≡ Some position
          → HoldsField x rights m block start k (IsKeptAs homes env v k k.slot)
          → (bytes : List Byte) × (length bytes ≡ value_bytes k.field_ty)
          × Holds rights m block (start + offset_at x.layout position) (value_bytes k.field_ty) bytes
          × IsKeptAs homes env v k k.slot (decode (access_of k.field_ty) bytes)
      placed v position k kept e h =
          let both : Some (Some h.offset) ≡ Some (Some (offset_at x.layout position)) =
          sym h.told ∙ field_placed v position k kept e in
          let same : h.offset ≡ offset_at x.layout position = cc in (
            h.bytes,
            h.sized,
            subst (λ (d : ℕ). Holds rights m block (start + d) (value_bytes k.field_ty) h.bytes) same h.holds,
            h.has,
          )
