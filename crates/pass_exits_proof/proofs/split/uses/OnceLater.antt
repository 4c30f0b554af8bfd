-- A part that goes on behind a suspend defines each of its locals once: the pieces of the function's entry block aren't reached, and its allocas stand in the part's own.
use Rattle.std.proofs.Common.{◌≡◌, ◌⊎◌, inl, inr, ℕ, ◌+◌, ◌<◌, ◌≤◌, Bool, true, false, List, [], ◌∷◌, ◌++◌, length, refl, sym, ap, ◌∙◌, subst, arith}
use Rattle.std.proofs.lemmas.Bool.{cases_lt}
use Rattle.std.specs.Prelude.{None, Some, filter, map, slice_get, ◌==◌}
use Rattle.pass_fetch_proof.specs.ir_base.declared.name.Name.{Name}
use Rattle.pass_split.specs.Parts.{back_blocks, done_block, entry_block, later_head, later_part, none_block, origins_for, part_blocks}
use Rattle.pass_fetch_proof.specs.pass_front.Front.{allocas_of, is_alloca}
use Rattle.pass_split.specs.Pieces.{all_pieces, next_after, pieced_phi, pieces_of, piecing_of}
use Rattle.pass_split.specs.Reached.{is_flagged, pruned, reached}
use Rattle.pass_split.specs.declared.origin.Origin.{Origin}
use Rattle.pass_fetch_proof.specs.rule_uses.Undefined.{params_of}
use Rattle.pass_fetch_proof.proofs.ir_laws.facts.Truth.{equal_numbers, is_number}
use Rattle.pass_fetch_proof.proofs.rule_laws.rules.local_rules.Names.{numbers}
use Rattle.pass_fetch_proof.proofs.rule_laws.rules.source_rules.Locals.{block_names, made_by}
use Rattle.pass_fetch_proof.proofs.ir_laws.facts.Lists.{phi_names, row_of, times_joined}
use Rattle.pass_fetch_proof.specs.flow_solver.Paths.{IsListed}
use Rattle.pass_fetch_proof.specs.frame_layout.declared.layout.Layout.{Layout}
use Rattle.pass_fetch_proof.specs.ir_parts.Locals.{locals_of}
use Rattle.pass_fetch_proof.specs.pass_intrinsics.Cuts.{goes_on}
use Rattle.pass_fetch_proof.specs.pass_intrinsics.Shapes.{back_label, done_label, entry_label, first_name, index_name, none_label, shape_of, slot_name}
use Rattle.pass_fetch_proof.specs.pass_intrinsics.declared.shape.Part.{Part}
use Rattle.pass_fetch_proof.specs.pass_intrinsics.declared.shape.Shape.{Shape}
use Rattle.ir_model.specs.declared.instr.Instr.{Instr}
use Rattle.ir_model.specs.declared.module.Block.{Block}
use Rattle.ir_model.specs.declared.module.Function.{Function}
use Rattle.ir_model.specs.declared.module.Module.{Module}
use Rattle.pass_fetch_proof.specs.ir_paths.Paths.{targets}
use Rattle.pass_fetch_proof.specs.rule_names.Definitions.{first_twice}
use Rattle.pass_exits_proof.proofs.split.edges.Cuttable.{Begun, IsCuttable, IsMark, Passed, Saved}
use Rattle.pass_exits_proof.proofs.split.edges.Entries.{ComesFrom, IsMarkFrom, edge_from, entry_listed, mark_from}
use Rattle.pass_exits_proof.proofs.split.edges.Labels.{is_mark, label_of_piece, one_home, part_different}
use Rattle.pass_exits_proof.proofs.split.edges.Pieces.{block_marks, blocks_times, piece_label}
use Rattle.pass_exits_proof.proofs.split.uses.Names.{NamesFrame, blocks_within, fresh, fresh_low, fresh_once, kept_made, kept_values, one_more, rows_joined, values}
use Rattle.pass_exits_proof.proofs.split.uses.Once.{blocks_kept, dropped, kept, kept_joined, kept_most, kept_none, labelled, labels_both, names_split, none_new, own_once}
use Rattle.pass_fetch_proof.proofs.rule_laws.rules.uses.Once.{none_twice_by}
use Rattle.pass_exits_proof.proofs.split.uses.OnceFront.{allocas_kept, backs_empty, begin_again, dropped_there, no_back, not_it, one_most}
use Rattle.pass_exits_proof.proofs.split.uses.Rules.{begin_named, begin_there}
use Rattle.pass_fetch_proof.proofs.ir_laws.facts.uses.Sources.{label_of}
use Rattle.pass_exits_proof.proofs.split.rules.Carried.{index_instrs}
use Rattle.pass_exits_proof.proofs.split.rules.Cutting.{cut_block, cut_blocks}
use Rattle.pass_fetch_proof.proofs.ir_laws.paths.replaced.Known.{listed_mapped}
use Rattle.pass_exits_proof.proofs.split.rules.Parted.{rises}
use Rattle.pass_exits_proof.proofs.split.rules.Reached.{flagged_is_led}
use Rattle.pass_exits_proof.specs.split.rules.Pieced.{ArePieces, ArePiecesOf}
use Rattle.pass_exits_proof.specs.split.rules.Reached.{Edge, Entry, IsLedTo}
use Rattle.pass_exits_proof.specs.split.rules.Splittable.{IsSplittable}
use Rattle.pass_fetch_proof.specs.run_laws.changed.Changed.{Each}
use Rattle.pass_fetch_proof.proofs.rule_laws.rules.woven_rules.Once.{apart_once}
use Rattle.pass_fetch_proof.proofs.ir_laws.paths.woven_rules.Once.{times_listed, times_none}
use Rattle.pass_fetch_proof.specs.ir_laws.facts.woven_rules.Pairs.{one_if, times}

module _ (m : Module) (k : ℕ) (f : Function) (begin : ℕ) (split : IsSplittable m k f begin) (layout : Layout) (part : Part) (later : goes_on part ≡ true) (name : Name) (cuts : IsCuttable (shape_of f layout) part f) (framed : Each (λ (b : Block). Each (NamesFrame (shape_of f layout) part) b.instrs) f.blocks) (no_marks : (v : ℕ) → (v < (shape_of f layout).base) ⊎ (first_name (shape_of f layout) ≤ v) → times v (row_of (block_marks (shape_of f layout) part) f.blocks) ≡ 0) (b0 : Block) (bs : List Block) (is_first : f.blocks ≡ b0 ∷ bs) (unled : (c : Block) → IsListed c (part_blocks (shape_of f layout) part f (origins_for (shape_of f layout) part f)) → IsListed b0.label (targets c.term) → ⊥) where
  abbrev s : Shape
  s = shape_of f layout

  abbrev origins : List Origin
  origins = origins_for (shape_of f layout) part f

  abbrev p : Function
  p = later_part (shape_of f layout) part name f

  abbrev head : List Block
  head = later_head (shape_of f layout) (reached f) part f.blocks

  abbrev next : ℕ
  next = (piecing_of (shape_of f layout) part (origins_for (shape_of f layout) part f) (first_name (shape_of f layout)) b0).next

  abbrev gone : List Block
  gone = all_pieces (shape_of f layout) (piecing_of (shape_of f layout) part (origins_for (shape_of f layout) part f) (first_name (shape_of f layout)) b0) b0.term

  abbrev rest : List Block
  rest = pieces_of s part origins next bs

  module _ (same_blocks : p.blocks ≡ part_blocks s part f origins) (same_whole : part_blocks s part f origins ≡ (head ++ (gone ++ rest)) ++ done_block s ∷ []) where
    listed_first : IsListed b0 f.blocks
    listed_first = subst (IsListed b0) (sym is_first) (inl refl)

    first_cut : ArePieces s part b0.term b0.label (map (pieced_phi s part origins b0.label) b0.phis) (first_name s) b0.instrs gone next
    first_cut = cut_block s part origins (first_name s) b0

    -- ---- the pieces of the entry block aren't reached

    abbrev IsOwn : ℕ → Type 0
    IsOwn label = (label ≡ b0.label) ⊎ IsListed label (block_marks s part b0)

    no_entry : (label : ℕ) → label ≡ entry_label s → IsOwn label → ⊥
    no_entry label e (inl d) = let low : b0.label < s.base = cuts.low b0 listed_first in absurd (omega (arith, e, d, low))
    no_entry label e (inr l) = on (is_mark s part f cuts b0 listed_first label l)
      where
        on : IsMark s label → ⊥
        on (Begun d) = absurd (omega (arith, e, d))
        on (Saved j low d) = absurd (omega (arith, e, d))
        on (Passed j low d) = absurd (omega (arith, e, d))

    not_led : (label : ℕ) → IsLedTo p label → IsOwn label → ⊥
    not_led _ (Entry label l) o =
        let x = entry_listed p.blocks label l in
        let first : Some (entry_block s (reached f) part f.blocks) ≡ Some x.0 = sym (ap (λ (cs : List Block). slice_get cs 0) (same_blocks ∙ same_whole)) ∙ x.1.0 in
        let is : entry_block s (reached f) part f.blocks ≡ x.0 = cc in
        no_entry label (x.1.1 ∙ ap label_of (sym is)) o
    not_led _ (Edge from label r l) o = on (λ before. not_led from r before) o
      where
        x : ComesFrom p from label
        x = edge_from p from label l

        in_whole : IsListed x.block (part_blocks s part f origins)
        in_whole = subst (IsListed x.block) same_blocks x.listed

        by_mark : (IsOwn from → ⊥) → IsListed label (block_marks s part b0) → IsMarkFrom s part f cuts x.block label → ⊥
        by_mark again n y =
            let home : b0 ≡ y.source.block = one_home s part f cuts label b0 y.source.block listed_first y.source.listed (inr n) (inr y.marks) in
            let own = label_of_piece s part f x.block y.source in
            let before : IsOwn x.block.label = subst (λ (b : Block). (x.block.label ≡ b.label) ⊎ IsListed x.block.label (block_marks s part b)) (sym home) own in
            again (subst IsOwn x.has_label before)

        on : (IsOwn from → ⊥) → IsOwn label → ⊥
        on again (inl e) = unled x.block in_whole (subst (λ (n : ℕ). IsListed n (targets x.block.term)) e x.leads)
        on again (inr n) = by_mark again n (mark_from s part f cuts x.block label in_whole x.leads (is_mark s part f cuts b0 listed_first label n))

    own_label : (c : Block) → IsListed c gone → IsOwn c.label
    own_label c l = piece_label s part b0.term b0.label (map (pieced_phi s part origins b0.label) b0.phis) (first_name s) next b0.instrs gone first_cut c.label (listed_mapped label_of gone c l)

    not_reached : (c : Block) → IsListed c gone → is_flagged (reached p) c.label ≡ true → ⊥
    not_reached c l e = not_led c.label (flagged_is_led p c.label e) (own_label c l)

    -- ---- how often a name stands

    cut_rest : ArePiecesOf s part origins next bs rest (next_after s part origins next bs)
    cut_rest = cut_blocks s part origins next bs

    new_after : first_name s ≤ next
    new_after = rises s part b0.term b0.label (first_name s) next (map (pieced_phi s part origins b0.label) b0.phis) b0.instrs gone first_cut

    framed_rest : Each (λ (b : Block). Each (NamesFrame s part) b.instrs) bs
    framed_rest = (subst (Each (λ (b : Block). Each (NamesFrame s part) b.instrs)) is_first framed).1

    module _ (v : ℕ) where
      abbrev E : ℕ
      E = one_if (entry_label s == v)

      abbrev O : ℕ
      O = one_if (none_label s == v)

      abbrev D : ℕ
      D = one_if (done_label s == v)

      abbrev S : ℕ
      S = one_if (slot_name s == v)

      abbrev I : ℕ
      I = one_if (index_name s == v)

      abbrev G : ℕ
      G = one_if (s.begin == v)

      abbrev B : ℕ
      B = labelled v (back_blocks s part 0 s.suspends)

      abbrev A : ℕ
      A = times v (row_of made_by (allocas_of f.blocks))

      abbrev K : ℕ
      K = times v (row_of (kept_values part) bs)

      abbrev Names : ℕ
      Names = times v (row_of block_names (pruned p).blocks)

      entry_values : values v (entry_block s (reached f) part f.blocks ∷ []) ≡ A + (S + I)
      entry_values =
          let a = one_more v (entry_block s (reached f) part f.blocks) [] in
          let tail : List Instr = index_instrs s in
          let rows = rows_joined v (allocas_of f.blocks) tail in
          omega (arith, a, rows)

      head_names : (labelled v head ≡ E + (O + B)) × (values v head ≡ A + (S + I))
      head_names =
          let a = one_more v (entry_block s (reached f) part f.blocks) (none_block s ∷ back_blocks s part 0 s.suspends) in
          let a2 = one_more v (entry_block s (reached f) part f.blocks) [] in
          let b = one_more v (none_block s) (back_blocks s part 0 s.suspends) in
          let c = backs_empty s part v 0 s.suspends in
          let e = entry_values in
          (omega arith, omega (arith, a, a2, b, c, e))

      -- the names of the part by their kinds
      counted : (x : ℕ) × ((Names ≤ ((E + (O + B)) + (labelled v rest + D)) + ((A + (S + I)) + values v rest)) × (values v rest ≤ K + times v (fresh next x)))
      counted =
          let last : List Block = done_block s ∷ [] in
          let flags = reached p in
          let all : Names ≡ kept v flags ((head ++ (gone ++ rest)) ++ last) = ap (kept v flags) (same_blocks ∙ same_whole) in
          let first = kept_joined v flags (head ++ (gone ++ rest)) last in
          let second = kept_joined v flags head (gone ++ rest) in
          let third = kept_joined v flags gone rest in
          let none = kept_none v flags gone not_reached in
          let most_head = kept_most v flags head in
          let most_rest = kept_most v flags rest in
          let most_last = kept_most v flags last in
          let split_head = names_split v head in
          let split_rest = names_split v rest in
          let split_last = names_split v last in
          let of_done = one_more v (done_block s) [] in
          let h = head_names in
          let labels_head = h.0 in
          let values_head = h.1 in
          let x = blocks_within v s part origins next (next_after s part origins next bs) bs rest cut_rest framed_rest in
          let bound = x.1.1 in
          (x.0, (omega (arith, all, first, second, third, none, most_head, most_rest, most_last, split_head, split_rest, split_last, of_done, labels_head, values_head), bound))

      -- what the function defines, less what begin makes
      of_function : (A + K + dropped v part f.blocks ≤ values v f.blocks) × (labelled v bs ≤ labelled v f.blocks)
      of_function =
          let all = blocks_kept v part f.blocks in
          let here : times v (row_of (kept_values part) f.blocks) ≡ times v (row_of (kept_values part) (b0 ∷ bs)) = ap (λ (cs : List Block). times v (row_of (kept_values part) cs)) is_first in
          let a = times_joined v (kept_values part b0) (row_of (kept_values part) bs) in
          let a2 = times_joined v (phi_names b0.phis) (row_of (kept_made part) b0.instrs) in
          let stay = allocas_kept v part b0.instrs in
          let mine : A ≡ times v (row_of made_by (filter is_alloca b0.instrs)) = ap (λ (cs : List Block). times v (row_of made_by (allocas_of cs))) is_first in
          let named : labelled v f.blocks ≡ labelled v (b0 ∷ bs) = ap (labelled v) is_first in
          (omega (arith, all, here, a, a2, stay, mine), omega (arith, named))

      begin_dropped : G ≤ dropped v part f.blocks
      begin_dropped = on (s.begin == v) refl
        where
          on : (t : Bool) → (s.begin == v) ≡ t → one_if t ≤ dropped v part f.blocks
          on true e =
              let x = begin_there m k f begin split layout in
              let is : begin ≡ v = sym (begin_named m k f begin split layout) ∙ equal_numbers s.begin v e in
              dropped_there v part f.blocks x.0 x.1.0 x.1.1.1.0 x.1.1.0 x.1.1.1.1.0 (begin_again part x.1.1.1.0 later x.1.1.1.1.1.0) (x.1.1.1.1.1.1 ∙ ap (λ (n : ℕ). Some n) is)
          on false e = omega arith

      rest_labels : labelled v rest ≤ labelled v bs + times v (row_of (block_marks s part) f.blocks)
      rest_labels =
          let few = blocks_times s part origins next (next_after s part origins next bs) bs rest cut_rest v in
          let here : times v (row_of (block_marks s part) f.blocks) ≡ times v (row_of (block_marks s part) (b0 ∷ bs)) = ap (λ (cs : List Block). times v (row_of (block_marks s part) cs)) is_first in
          let a = times_joined v (block_marks s part b0) (row_of (block_marks s part) bs) in
          omega (arith, few, here, a)

      -- no label stands twice
      labels_once : (E + (O + B)) + (labelled v rest + D) ≤ 1
      labels_once =
          let one : labelled v (part_blocks s part f origins) ≤ 1 = apart_once (map label_of (part_blocks s part f origins)) (part_different s part f cuts) v in
          let all : labelled v (part_blocks s part f origins) ≡ labelled v ((head ++ (gone ++ rest)) ++ done_block s ∷ []) = ap (labelled v) same_whole in
          let first = labels_both v (head ++ (gone ++ rest)) (done_block s ∷ []) in
          let second = labels_both v head (gone ++ rest) in
          let third = labels_both v gone rest in
          let h = head_names in
          let labels_head = h.0 in
          omega (arith, one, all, first, second, third, labels_head)

      joined : times v (numbers (pruned p)) ≡ times v (params_of (pruned p)) + Names
      joined = times_joined v (params_of (pruned p)) (row_of block_names (pruned p).blocks)

      -- no mark is the name of the slot or of the index
      no_mark_there : (v ≡ slot_name s) ⊎ (v ≡ index_name s) → labelled v bs ≡ 0 → labelled v rest ≡ 0
      no_mark_there side none = times_none v (map label_of rest) (λ l. absurd (on side l))
        where
          zero_of : times v (row_of (block_marks s part) f.blocks) ≡ 0 → labelled v rest ≡ 0
          zero_of e = let few = rest_labels in omega (arith, few, e, none)

          never : (v ≡ slot_name s) ⊎ (v ≡ index_name s) → IsMark s v → ⊥
          never (inl e) (Begun d) = absurd (omega (arith, e, d))
          never (inl e) (Saved j low d) = absurd (omega (arith, e, d))
          never (inl e) (Passed j low d) = absurd (omega (arith, e, d))
          never (inr e) (Begun d) = absurd (omega (arith, e, d))
          never (inr e) (Saved j low d) = absurd (omega (arith, e, d))
          never (inr e) (Passed j low d) = absurd (omega (arith, e, d))

          on : (v ≡ slot_name s) ⊎ (v ≡ index_name s) → IsListed v (map label_of rest) → ⊥
          on w l =
              let e : labelled v rest ≡ 0 = zero_of (times_none v (row_of (block_marks s part) f.blocks) (λ n. never w (cuts.are_marks v n))) in
              let some = times_listed v (map label_of rest) l in
              absurd (omega (arith, e, some))

      once : times v (numbers (pruned p)) ≤ 1
      once = on (cases_lt v s.base) (cases_lt v (first_name s))
        where
          on : (v < s.base) ⊎ (s.base ≤ v) → (v < first_name s) ⊎ (first_name s ≤ v) → times v (numbers (pruned p)) ≤ 1
          on (inl low) side =
              let all = joined in
              let c = counted in
              let most = c.1.0 in
              let bound = c.1.1 in
              let own = own_once m k f begin split layout v in
              let of = of_function in
              let less = of.0 in
              let fewer = of.1 in
              let dropped_begin = begin_dropped in
              let labels = rest_labels in
              let marks = no_marks v (inl low) in
              let after = new_after in
              let new = fresh_low v next c.0 (omega (arith, low, after)) in
              let entry = not_it (entry_label s) v (λ e. let same : entry_label s ≡ v = e in absurd (omega (arith, same, low))) in
              let none = not_it (none_label s) v (λ e. let same : none_label s ≡ v = e in absurd (omega (arith, same, low))) in
              let done = not_it (done_label s) v (λ e. let same : done_label s ≡ v = e in absurd (omega (arith, same, low))) in
              let slot = not_it (slot_name s) v (λ e. let same : slot_name s ≡ v = e in absurd (omega (arith, same, low))) in
              let index = not_it (index_name s) v (λ e. let same : index_name s ≡ v = e in absurd (omega (arith, same, low))) in
              let backs = no_back s part v (λ i less_i e. let same : v ≡ back_label s (0 + i) = e in absurd (omega (arith, same, low))) in
              omega (arith, all, most, bound, own, less, fewer, dropped_begin, labels, marks, new, entry, none, done, slot, index, backs)
          on (inr high) (inl below) = mid (is_number (slot_name s) v) (is_number (index_name s) v)
            where
              plain : times v (numbers (pruned p)) ≤ ((E + (O + B)) + (labelled v rest + D)) + (S + I)
              plain =
                  let all = joined in
                  let c = counted in
                  let most = c.1.0 in
                  let bound = c.1.1 in
                  let none = none_new m k f begin split layout v high in
                  let of = of_function in
                  let less = of.0 in
                  let dropped_begin = begin_dropped in
                  let after = new_after in
                  let new = fresh_low v next c.0 (omega (arith, below, after)) in
                  omega (arith, all, most, bound, none, less, dropped_begin, new)

              no_labels : (v ≡ slot_name s) ⊎ (v ≡ index_name s) → (entry_label s ≡ v → ⊥) → (none_label s ≡ v → ⊥) → (done_label s ≡ v → ⊥) → ((i : ℕ) → i < length s.suspends → v ≡ back_label s (0 + i) → ⊥) → (E + (O + B)) + (labelled v rest + D) ≡ 0
              no_labels which a b c d =
                  let entry = not_it (entry_label s) v a in
                  let none = not_it (none_label s) v b in
                  let done = not_it (done_label s) v c in
                  let backs = no_back s part v d in
                  let old = none_new m k f begin split layout v high in
                  let of = of_function in
                  let fewer = of.1 in
                  let pieces = no_mark_there which (omega (arith, old, fewer)) in
                  omega (arith, entry, none, done, backs, pieces)

              mid : (slot_name s ≡ v) ⊎ (slot_name s ≡ v → ⊥) → (index_name s ≡ v) ⊎ (index_name s ≡ v → ⊥) → times v (numbers (pruned p)) ≤ 1
              mid (inl e) index =
                  let is : slot_name s ≡ v = e in
                  let all = plain in
                  let labels = no_labels (inl (sym e)) (λ d. let same : entry_label s ≡ v = d in absurd (omega (arith, same, is))) (λ d. let same : none_label s ≡ v = d in absurd (omega (arith, same, is))) (λ d. let same : done_label s ≡ v = d in absurd (omega (arith, same, is))) (λ i low d. let same : v ≡ back_label s (0 + i) = d in absurd (omega (arith, same, is))) in
                  let slot = one_most (slot_name s) v in
                  let other = not_it (index_name s) v (λ d. let same : index_name s ≡ v = d in absurd (omega (arith, same, is))) in
                  omega (arith, all, labels, slot, other)
              mid (inr ne) (inl e) =
                  let is : index_name s ≡ v = e in
                  let all = plain in
                  let labels = no_labels (inr (sym e)) (λ d. let same : entry_label s ≡ v = d in absurd (omega (arith, same, is))) (λ d. let same : none_label s ≡ v = d in absurd (omega (arith, same, is))) (λ d. let same : done_label s ≡ v = d in absurd (omega (arith, same, is))) (λ i low d. let same : v ≡ back_label s (0 + i) = d in absurd (omega (arith, same, is))) in
                  let index = one_most (index_name s) v in
                  let other = not_it (slot_name s) v ne in
                  omega (arith, all, labels, index, other)
              mid (inr ne) (inr de) =
                  let all = plain in
                  let labels = labels_once in
                  let slot = not_it (slot_name s) v ne in
                  let index = not_it (index_name s) v de in
                  omega (arith, all, labels, slot, index)
          on (inr high) (inr far) =
              let all = joined in
              let c = counted in
              let most = c.1.0 in
              let bound = c.1.1 in
              let old = none_new m k f begin split layout v high in
              let of = of_function in
              let less = of.0 in
              let fewer = of.1 in
              let dropped_begin = begin_dropped in
              let labels = rest_labels in
              let marks = no_marks v (inr far) in
              let new = fresh_once v next c.0 in
              let entry = not_it (entry_label s) v (λ e. let same : entry_label s ≡ v = e in absurd (omega (arith, same, far))) in
              let none = not_it (none_label s) v (λ e. let same : none_label s ≡ v = e in absurd (omega (arith, same, far))) in
              let done = not_it (done_label s) v (λ e. let same : done_label s ≡ v = e in absurd (omega (arith, same, far))) in
              let slot = not_it (slot_name s) v (λ e. let same : slot_name s ≡ v = e in absurd (omega (arith, same, far))) in
              let index = not_it (index_name s) v (λ e. let same : index_name s ≡ v = e in absurd (omega (arith, same, far))) in
              let backs = no_back s part v (λ i less_i e. let same : v ≡ back_label s (0 + i) = e in absurd (omega (arith, same, far, less_i))) in
              omega (arith, all, most, bound, old, less, fewer, dropped_begin, labels, marks, new, entry, none, done, slot, index, backs)

    pub later_once : (l : ℕ) → first_twice [] (locals_of l (pruned (later_part (shape_of f layout) part name f))) ≡ None
    later_once l = none_twice_by l (pruned p) once
