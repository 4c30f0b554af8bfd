-- What the table of offsets tells of slots and of the fields of kept values.
use Rattle.std.proofs.Common.{◌≡◌, ℕ, zero, suc, ◌+◌, ◌<◌, Bool, true, false, List, [], ◌∷◌, length, refl, sym, ap, ◌∙◌, arith}
use Rattle.std.specs.Prelude.{None, Option, Some, get_or, replicate, slice_get, slice_set, if◌then◌else◌}
use Rattle.pass_proofs.specs.frame_contents.declared.contents.Contents.{Contents}
use Rattle.pass_proofs.specs.frame_contents.declared.held.Holding.{Holding}
use Rattle.pass_proofs.specs.frame_layout.declared.layout.Layout.{Layout}
use Rattle.pass_proofs.proofs.ir_laws.facts.Lists.{blank_length, set_here, set_length, set_other}
use Rattle.pass_proofs.specs.ir_model.declared.module.Function.{Function}
use Rattle.pass_proofs.specs.pass_cells.Links.{field_name}
use Rattle.pass_proofs.specs.pass_edges.EdgeBlocks.{with_edge_blocks}
use Rattle.pass_proofs.specs.pass_frames.Framed.{kept_of, offsets_of}
use Rattle.pass_proofs.specs.pass_frames.Tables.{is_slot_kind, offset_at, with_field_offset, with_field_offsets, with_slot_offset, with_slot_offsets}
use Rattle.pass_proofs.proofs.frames.begin_order.Tables.{offsets_length}
use Rattle.pass_frames_code.specs.Offsets.{AreHeldOnce}

module _ (l : Layout) where
  -- ---- slots

  one_length : (k : ℕ) (h : Holding) (table : List (Option ℕ)) → length (with_slot_offset l k h table) ≡ length table
  one_length k h table = on (is_slot_kind h.kind)
    where
      on : (c : Bool) → length (if c then slice_set table h.value (Some (offset_at l k)) else table) ≡ length table
      on true = set_length table h.value (Some (offset_at l k))
      on false = refl

  slots_kept : (k : ℕ) (hs : List Holding) (table : List (Option ℕ)) (v : ℕ)
      → ((i : ℕ) (x : Holding) → slice_get hs i ≡ Some x → x.value ≡ v → ⊥)
      → slice_get (with_slot_offsets l k hs table) v ≡ slice_get table v
  slots_kept k [] table v none = refl
  slots_kept k (h ∷ hs) table v none =
      slots_kept (k + 1) hs (with_slot_offset l k h table) v (λ i x e d. none (suc i) x e d)
      ∙ on (is_slot_kind h.kind)
    where
      on : (c : Bool)
          → slice_get (if c then slice_set table h.value (Some (offset_at l k)) else table) v ≡ slice_get table v
      on true = set_other table h.value v (Some (offset_at l k)) (λ e. none 0 h refl e)
      on false = refl

  slots_set : (k : ℕ) (hs : List Holding) (table : List (Option ℕ)) (j : ℕ) (h : Holding) → slice_get hs j ≡ Some h
      → ((i : ℕ) (x : Holding) → slice_get hs i ≡ Some x → x.value ≡ h.value → i ≡ j) → is_slot_kind h.kind ≡ true
      → h.value < length table
      → slice_get (with_slot_offsets l k hs table) h.value ≡ Some (Some (offset_at l (k + j)))
  slots_set k [] table j h e once s low = absurd (cc)
  slots_set k (y ∷ hs) table zero h e once s low =
      let same : y ≡ h = cc in
      let here : k + 0 ≡ k = omega arith in
      slots_kept (k + 1) hs (with_slot_offset l k y table) h.value
      (λ i x d q. absurd (let wrong : suc i ≡ 0 = once (suc i) x d q in omega (arith, wrong)))
      ∙ ap (λ (z : Holding). slice_get (with_slot_offset l k z table) h.value) same
      ∙ ap (λ (c : Bool). slice_get (if c then slice_set table h.value (Some (offset_at l k)) else table) h.value) s
      ∙ set_here table h.value (Some (offset_at l k)) low
      ∙ ap (λ (n : ℕ). Some (Some (offset_at l n))) (sym here)
  slots_set k (y ∷ hs) table (suc j) h e once s low =
      let next : k + 1 + j ≡ k + suc j = omega arith in
      let long : length (with_slot_offset l k y table) ≡ length table = one_length k y table in
      slots_set (k + 1) hs (with_slot_offset l k y table) j h e
      (λ i x d q. let same : suc i ≡ suc j = once (suc i) x d q in omega (arith, same)) s
      (omega (arith, long, low))
      ∙ ap (λ (n : ℕ). Some (Some (offset_at l n))) next

  -- ---- fields

  module _ (positions : List (Option ℕ)) (first count : ℕ) where
    fields_kept : (k : ℕ) (vs : List ℕ) (table : List (Option ℕ)) (v : ℕ) → v < field_name first count k
        → slice_get (with_field_offsets l positions first count k vs table) v ≡ slice_get table v
    fields_kept k [] table v low = refl
    fields_kept k (x ∷ vs) table v low =
        fields_kept (k + 1) vs (with_field_offset l (field_name first count k) (get_or positions x None) table) v
        (omega arith)
        ∙ on (get_or positions x None)
      where
        on : (o : Option ℕ) → slice_get (with_field_offset l (field_name first count k) o table) v ≡ slice_get table v
        on None = refl
        on (Some place) =
            set_other table (field_name first count k) v (Some (offset_at l place)) (λ e. absurd (omega (arith, e)))

    one_field : (name : ℕ) (o : Option ℕ) (table : List (Option ℕ))
        → length (with_field_offset l name o table) ≡ length table
    one_field name None table = refl
    one_field name (Some place) table = set_length table name (Some (offset_at l place))

    fields_set : (k : ℕ) (vs : List ℕ) (table : List (Option ℕ)) (j v p : ℕ) → slice_get vs j ≡ Some v
        → get_or positions v None ≡ Some p → field_name first count (k + j) < length table
        → slice_get (with_field_offsets l positions first count k vs table) (field_name first count (k + j))
        ≡ Some (Some (offset_at l p))
    fields_set k [] table j v p e d low = absurd (cc)
    fields_set k (x ∷ vs) table zero v p e d low =
        let same : x ≡ v = cc in
        let here : k + 0 ≡ k = omega arith in
        ap (λ (n : ℕ). slice_get
        (with_field_offsets l positions first count (k + 1) vs
        (with_field_offset l (field_name first count k) (get_or positions x None) table))
        (field_name first count n)) here
        ∙ fields_kept (k + 1) vs (with_field_offset l (field_name first count k) (get_or positions x None) table)
        (field_name first count k) (omega arith)
        ∙ ap (λ (o : Option ℕ). slice_get (with_field_offset l (field_name first count k) o table)
        (field_name first count k)) (ap (λ (n : ℕ). get_or positions n None) same ∙ d)
        ∙ set_here table (field_name first count k) (Some (offset_at l p)) (omega arith)
    fields_set k (x ∷ vs) table (suc j) v p e d low =
        let next : k + suc j ≡ k + 1 + j = omega arith in
        let long : length (with_field_offset l (field_name first count k) (get_or positions x None) table)
        ≡ length table = one_field (field_name first count k) (get_or positions x None) table in
        ap (λ (n : ℕ). slice_get
        (with_field_offsets l positions first count (k + 1) vs
        (with_field_offset l (field_name first count k) (get_or positions x None) table))
        (field_name first count n)) next
        ∙ fields_set (k + 1) vs (with_field_offset l (field_name first count k) (get_or positions x None) table) j v p
        e d (omega (arith, long, low))

-- ---- the table of a coroutine

module _ (l : Layout) (f : Function) (c : Contents) (names : ℕ) where
  abbrev first : ℕ
  first = length (with_edge_blocks f).names

  abbrev values : List ℕ
  values = kept_of first c

  abbrev slots : List (Option ℕ)
  slots = with_slot_offsets l 0 c.held (replicate names None)

  pub slots_told : (k : ℕ) (h : Holding) → AreHeldOnce c.held → slice_get c.held k ≡ Some h
      → is_slot_kind h.kind ≡ true → h.value < names → h.value < length (with_edge_blocks f).names
      → slice_get (offsets_of l f c names) h.value ≡ Some (Some (offset_at l k))
  slots_told k h once e s low known =
      let here : 0 + k ≡ k = omega arith in
      let long : length (replicate {A = Option ℕ} names None) ≡ names = blank_length names in
      fields_kept l c.positions first (length values) 0 values slots h.value (omega arith)
      ∙ slots_set l 0 c.held (replicate names None) k h e (λ i x d q. once.each i k x h d e q) s
      (omega (arith, long, low))
      ∙ ap (λ (n : ℕ). Some (Some (offset_at l n))) here

  pub fields_told : (j v k : ℕ) → slice_get (kept_of (length (with_edge_blocks f).names) c) j ≡ Some v
      → get_or c.positions v None ≡ Some k
      → field_name (length (with_edge_blocks f).names) (length (kept_of (length (with_edge_blocks f).names) c)) j
      < names → slice_get (offsets_of l f c names)
      (field_name (length (with_edge_blocks f).names) (length (kept_of (length (with_edge_blocks f).names) c)) j)
      ≡ Some (Some (offset_at l k))
  fields_told j v k e d low =
      let here : 0 + j ≡ j = omega arith in
      let long : length (replicate {A = Option ℕ} names None) ≡ names = blank_length names in
      let longer : length slots ≡ length (replicate {A = Option ℕ} names None) =
      offsets_length l 0 c.held (replicate names None) in
      ap (λ (n : ℕ). slice_get (offsets_of l f c names) (field_name first (length values) n)) (sym here)
      ∙ fields_set l c.positions first (length values) 0 values slots j v k e d (omega (arith, long, longer, low))
