-- The markers of a part name its allocas, with their sizes (K13).
use Rattle.std.proofs.Common.{◌≡◌, ℕ, suc, Bool, true, false, List, [], ◌∷◌, ◌++◌, refl, sym, ap, ◌∙◌, subst, arith}
use Rattle.std.specs.Prelude.{None, Option, Some, filter, map, not, slice_get, ◌&&◌, ◌==◌, if◌then◌else◌}
use Rattle.pass_fetch_proof.specs.ir_base.declared.outcome.Place.{Place}
use Rattle.pass_split.specs.Parts.{done_block, entry_block, origins_for, part_names}
use Rattle.pass_fetch_proof.specs.pass_front.Front.{allocas_first, allocas_of, is_alloca, is_no_alloca}
use Rattle.pass_split.specs.Pieces.{pieced_phi}
use Rattle.pass_split.specs.declared.origin.Origin.{Origin}
use Rattle.pass_split.specs.Reached.{is_flagged, kept_block, kept_blocks, pruned, reached}
use Rattle.pass_fetch_proof.proofs.rule_laws.rules.local_rules.Fitting.{either, no_either}
use Rattle.pass_fetch_proof.proofs.ir_laws.facts.Truth.{holds}
use Rattle.pass_fetch_proof.specs.flow_solver.Paths.{IsListed}
use Rattle.pass_fetch_proof.specs.frame_layout.declared.layout.Layout.{Layout}
use Rattle.pass_fetch_proof.specs.ir_parts.Parts.{parts_of}
use Rattle.pass_fetch_proof.specs.pass_intrinsics.Shapes.{shape_of}
use Rattle.pass_fetch_proof.specs.pass_intrinsics.declared.shape.Part.{Part}
use Rattle.pass_fetch_proof.specs.pass_intrinsics.declared.shape.Shape.{Shape}
use Rattle.ir_model.specs.Ty.{Ty}
use Rattle.ir_model.specs.declared.instr.Instr.{Instr}
use Rattle.ir_model.specs.declared.module.Block.{Block}
use Rattle.ir_model.specs.declared.module.Function.{Function}
use Rattle.ir_model.specs.declared.module.Module.{Module}
use Rattle.ir_model.specs.declared.operand.Arg.{Arg}
use Rattle.ir_model.specs.declared.operand.Intrinsic.{Intrinsic}
use Rattle.ir_model.specs.declared.operand.Operand.{Operand}
use Rattle.pass_fetch_proof.specs.rule_locals.Instrs.{on_instr}
use Rattle.pass_fetch_proof.specs.rule_locals.Markers.{block_size, first_other_mark, is_marker, made_size, marks, marks_otherwise, marks_size, marks_slot, slot_size}
use Rattle.pass_fetch_proof.specs.ir_locals.Tables.{first_in, or_first}
use Rattle.pass_exits_proof.proofs.split.edges.Allocas.{HasFront, HasNoAlloca, IsAnAlloca, IsNoAlloca, all_allocas, front_pieces, no_allocas}
use Rattle.pass_exits_proof.proofs.split.edges.Entries.{entry_flagged}
use Rattle.pass_exits_proof.proofs.split.edges.Fronts.{own_allocas, own_front}
use Rattle.pass_exits_proof.proofs.split.edges.Labels.{are_cut, done_there, whole}
use Rattle.pass_exits_proof.proofs.split.edges.Sources.{pruned_part}
use Rattle.pass_fetch_proof.specs.rule_laws.frames.same_names.Parts.{HasPartsOf}
use Rattle.pass_exits_proof.proofs.split.rules.Carried.{index_instrs, part_carried}
use Rattle.pass_exits_proof.proofs.split.rules.Local.{instr_carried}
use Rattle.pass_fetch_proof.proofs.rule_laws.frames.replaced.Modules.{has_functions, size_there}
use Rattle.pass_fetch_proof.proofs.rule_laws.frames.replaced.Saves.{saves_below}
use Rattle.pass_exits_proof.specs.split.rules.Parted.{IsPartOf}
use Rattle.pass_exits_proof.specs.split.rules.Pieced.{ArePiecesOf, NoBlock, OneBlock}
use Rattle.pass_fetch_proof.specs.rule_laws.frames.replaced.Replaced.{Address, Calls, Loads, Number, Replaces, StoresCleanup, StoresDestroy, StoresIndex, StoresNull, StoresResume, Tests, Truth}
use Rattle.pass_exits_proof.specs.split.rules.Splittable.{IsSplittable}
use Rattle.pass_fetch_proof.specs.run_laws.changed.Changed.{Each}
use Rattle.pass_fetch_proof.specs.rule_types.Signatures.{calls_otherwise}

-- ---- sizes of slots

none_made : (m : Module) (i : Instr) (v : ℕ) → is_alloca i ≡ false → made_size m i v ≡ None
none_made m (Instr.Alloca r ty align) v e = absurd (cc)
none_made m _ v e = refl

none_in : (m : Module) (is : List Instr) (v : ℕ) → Each IsNoAlloca is → first_in (made_size m) is v ≡ None
none_in m [] v h = refl
none_in m (i ∷ is) v h = λ k. or_first (none_made m i v h.0 k) (none_in m is v h.1 k)

none_by : (m : Module) (bs : List Block) (v : ℕ) → ((at : ℕ) (b : Block) → slice_get bs at ≡ Some b → HasNoAlloca b) → first_in (block_size m) bs v ≡ None
none_by m [] v h = refl
none_by m (b ∷ bs) v h = λ k. or_first (none_in m b.instrs v (h 0 b refl) k) (none_by m bs v (λ at c e. h (suc at) c e) k)

-- the size of a slot is that of an alloca of the first block
in_first : (m : Module) (b : Block) (bs : List Block) (v z : ℕ) → ((at : ℕ) (c : Block) → slice_get (b ∷ bs) (suc at) ≡ Some c → HasNoAlloca c) → first_in (block_size m) (b ∷ bs) v ≡ Some z → block_size m b v ≡ Some z
in_first m b bs v z h e = on (block_size m b v) refl (sym (ap (or_first (block_size m b v)) (none_by m bs v (λ at c d. h at c d))) ∙ e)
  where
    on : (o : Option ℕ) → block_size m b v ≡ o → or_first (block_size m b v) None ≡ Some z → block_size m b v ≡ Some z
    on None d g = let none : None ≡ Some z = sym (ap (λ (p : Option ℕ). or_first p None) d) ∙ g in absurd (cc)
    on (Some a) d g = let same : Some a ≡ Some z = sym (ap (λ (p : Option ℕ). or_first p None) d) ∙ g in d ∙ same

filtered_size : (m : Module) (is : List Instr) (v : ℕ) → first_in (made_size m) (filter is_alloca is) v ≡ first_in (made_size m) is v
filtered_size m [] v = refl
filtered_size m (i ∷ is) v = on (is_alloca i) refl (filtered_size m is v)
  where
    on : (t : Bool) → is_alloca i ≡ t → first_in (made_size m) (filter is_alloca is) v ≡ first_in (made_size m) is v → first_in (made_size m) (if t then i ∷ filter is_alloca is else filter is_alloca is) v ≡ or_first (made_size m i v) (first_in (made_size m) is v)
    on true e more = ap (or_first (made_size m i v)) more
    on false e more = more ∙ sym (ap (λ (o : Option ℕ). or_first o (first_in (made_size m) is v)) (none_made m i v e))

front_size : (m : Module) (xs ys : List Instr) (v z : ℕ) → first_in (made_size m) xs v ≡ Some z → first_in (made_size m) (xs ++ ys) v ≡ Some z
front_size m [] ys v z e = absurd (cc)
front_size m (i ∷ xs) ys v z e = on (made_size m i v) e (front_size m xs ys v z)
  where
    on : (o : Option ℕ) → or_first o (first_in (made_size m) xs v) ≡ Some z → (first_in (made_size m) xs v ≡ Some z → first_in (made_size m) (xs ++ ys) v ≡ Some z) → or_first o (first_in (made_size m) (xs ++ ys) v) ≡ Some z
    on None d more = more d
    on (Some a) d more = d

-- types have the sizes that they had
module _ (m n : Module) (h : HasPartsOf m n) where
  made_there : (i : Instr) (v : ℕ) → made_size n i v ≡ made_size m i v
  made_there (Instr.Alloca r ty align) v = ap (λ (k : ℕ). if r == v then Some k else None) (size_there m n (has_functions m n h) ty)
  made_there _ v = refl

  sizes_there : (is : List Instr) (v : ℕ) → first_in (made_size n) is v ≡ first_in (made_size m) is v
  sizes_there [] v = refl
  sizes_there (i ∷ is) v = λ k. or_first (made_there i v k) (sizes_there is v k)

-- ---- the allocas with which a part begins

allocas_are : (bs : List Block) (b : Block) → slice_get bs 0 ≡ Some b → allocas_of bs ≡ filter is_alloca b.instrs
allocas_are [] b e = absurd (cc)
allocas_are (c ∷ cs) b e = let same : c ≡ b = cc in ap (λ (d : Block). filter is_alloca d.instrs) same

-- instructions with these in front
abbrev BeginsWith : List Instr → List Instr → Type 0
BeginsWith xs is = (more : List Instr) × (is ≡ xs ++ more)

first_front : (s : Shape) (part : Part) (os : List Origin) (n last : ℕ) (bs cs rest : List Block) → ArePiecesOf s part os n bs cs last → (c : Block) → slice_get bs 0 ≡ Some c → (xs ys : List Instr) → c.instrs ≡ xs ++ ys → Each IsAnAlloca xs → Each IsNoAlloca ys → (e : Block) → slice_get (cs ++ rest) 0 ≡ Some e → BeginsWith xs e.instrs
first_front s part os _ _ _ _ rest (NoBlock n) c d xs ys same a b e w = absurd (cc)
first_front s part os _ _ _ _ rest (OneBlock n next last q bs cs ds k more) c d xs ys same a b e w =
    let one : q ≡ c = cc in
    on cs (front_pieces s part q.term q.label (map (pieced_phi s part os q.label) q.phis) n next q.instrs cs k xs ys (ap (λ (z : Block). z.instrs) one ∙ same) a b) w
  where
    on : (zs : List Block) → HasFront s part xs zs → slice_get ((zs ++ ds) ++ rest) 0 ≡ Some e → BeginsWith xs e.instrs
    on [] f w = absurd f
    on (z ∷ zs) f w = let is : z ≡ e = cc in subst (λ (y : Block). BeginsWith xs y.instrs) is f.0

entry_begins : (s : Shape) (part : Part) (f : Function) (b e : Block) → allocas_first b ≡ b → slice_get f.blocks 0 ≡ Some b → slice_get (whole s part f) 0 ≡ Some e → BeginsWith (filter is_alloca b.instrs) e.instrs
entry_begins s Part.Ramp f b e a d w =
    first_front s Part.Ramp _ _ _ f.blocks _ (done_block s ∷ []) (are_cut s Part.Ramp f) b d (filter is_alloca b.instrs) (filter is_no_alloca b.instrs) (ap (λ (c : Block). c.instrs) (sym a)) (all_allocas b.instrs) (no_allocas b.instrs) e w
entry_begins s Part.Resume f b e a d w =
    let same : entry_block s (reached f) Part.Resume f.blocks ≡ e = cc in
    (index_instrs s, ap (λ (c : Block). c.instrs) (sym same) ∙ ap (λ (is : List Instr). is ++ index_instrs s) (allocas_are f.blocks b d))
entry_begins s Part.Destroy f b e a d w =
    let same : entry_block s (reached f) Part.Destroy f.blocks ≡ e = cc in
    (index_instrs s, ap (λ (c : Block). c.instrs) (sym same) ∙ ap (λ (is : List Instr). is ++ index_instrs s) (allocas_are f.blocks b d))
entry_begins s Part.Cleanup f b e a d w =
    let same : entry_block s (reached f) Part.Cleanup f.blocks ≡ e = cc in
    (index_instrs s, ap (λ (c : Block). c.instrs) (sym same) ∙ ap (λ (is : List Instr). is ++ index_instrs s) (allocas_are f.blocks b d))
entry_begins s Part.GivenRamp f b e a d w =
    first_front s Part.GivenRamp _ _ _ f.blocks _ (done_block s ∷ []) (are_cut s Part.GivenRamp f) b d (filter is_alloca b.instrs) (filter is_no_alloca b.instrs) (ap (λ (c : Block). c.instrs) (sym a)) (all_allocas b.instrs) (no_allocas b.instrs) e w

-- ---- the sizes of slots stay

kept_first : (flags : List Bool) (e : Block) (bs : List Block) (m : Module) (v z : ℕ) → is_flagged flags e.label ≡ true → block_size m e v ≡ Some z → first_in (block_size m) (kept_blocks flags (e ∷ bs)) v ≡ Some z
kept_first flags e bs m v z flagged size = on (is_flagged flags e.label) flagged
  where
    on : (t : Bool) → t ≡ true → first_in (block_size m) (map (kept_block flags) (if t then e ∷ filter (λ b. is_flagged flags b.label) bs else filter (λ b. is_flagged flags b.label) bs)) v ≡ Some z
    on true d = ap (λ (o : Option ℕ). or_first o (first_in (block_size m) (map (kept_block flags) (filter (λ b. is_flagged flags b.label) bs)) v)) size
    on false d = absurd (cc)

module _ (m n : Module) (k : ℕ) (f : Function) (begin : ℕ) (parts : HasPartsOf m n) (x : IsSplittable m k f begin) (layout : Layout) (part : Part) where
  abbrev s : Shape
  s = shape_of f layout

  slots_stay : (p : Function) → p.blocks ≡ whole s part f → p.names ≡ part_names s part f (origins_for s part f) → (v z : ℕ) → slot_size m f v ≡ Some z → slot_size n (pruned p) v ≡ Some z
  slots_stay p blocks names v z size = on f.blocks refl size p.blocks refl
    where
      there : (b e : Block) → slice_get f.blocks 0 ≡ Some b → slice_get p.blocks 0 ≡ Some e → block_size m b v ≡ Some z → block_size n e v ≡ Some z
      there b e d w size =
          let y = entry_begins s part f b e (own_front m k f begin x b d) d (ap (λ (bs : List Block). slice_get bs 0) (sym blocks) ∙ w) in
          ap (λ (is : List Instr). first_in (made_size n) is v) y.1
          ∙ front_size n (filter is_alloca b.instrs) y.0 v z (filtered_size n b.instrs v ∙ sizes_there m n parts b.instrs v ∙ size)

      nowhere : p.blocks ≡ [] → ⊥
      nowhere e = subst (λ (bs : List Block). IsListed (done_block s) bs) (sym blocks ∙ e) (done_there s part f)

      on : (bs : List Block) → f.blocks ≡ bs → first_in (block_size m) bs v ≡ Some z → (cs : List Block) → p.blocks ≡ cs → first_in (block_size n) (kept_blocks (reached p) cs) v ≡ Some z
      on [] d g cs w = absurd (cc)
      on (b ∷ bs) d g [] w = absurd (nowhere w)
      on (b ∷ bs) d g (e ∷ cs) w =
          let first : slice_get f.blocks 0 ≡ Some b = ap (λ (ds : List Block). slice_get ds 0) d in
          let entry : slice_get p.blocks 0 ≡ Some e = ap (λ (ds : List Block). slice_get ds 0) w in
          let own : block_size m b v ≡ Some z = in_first m b bs v z (λ at c q. own_allocas m k f begin x at c (ap (λ (ds : List Block). slice_get ds (suc at)) d ∙ q)) g in
          kept_first (reached p) e cs n v z (entry_flagged m k f begin x layout part p blocks names e entry) (there b e first entry own)

  -- ---- the rule

  both_false : (b u w : Bool) → (u ≡ true → w ≡ true) → (b && not u) ≡ false → (b && not w) ≡ false
  both_false false u w h e = refl
  both_false true u w h e = ap not (h (holds u e))

  marks_again : (sizes now : ℕ → Option ℕ) → ((v z : ℕ) → sizes v ≡ Some z → now v ≡ Some z) → (args : List Arg) → marks sizes args ≡ true → marks now args ≡ true
  marks_again sizes now h [] e = absurd (cc)
  marks_again sizes now h (a ∷ []) e = absurd (cc)
  marks_again sizes now h (a ∷ b ∷ c ∷ args) e = absurd (cc)
  marks_again sizes now h (a ∷ b ∷ []) e = slot b.value e
    where
      slot : (y : Operand) → marks_slot sizes a.value y ≡ true → marks_slot now a.value y ≡ true
      slot (Operand.Local v) d = on (sizes v) refl d
        where
          on : (o : Option ℕ) → sizes v ≡ o → marks_size a.value o ≡ true → marks_size a.value (now v) ≡ true
          on None g q = absurd (cc)
          on (Some z) g q = ap (marks_size a.value) (h v z g) ∙ q
      slot _ d = absurd (cc)

  marked_again : (sizes now : ℕ → Option ℕ) → ((v z : ℕ) → sizes v ≡ Some z → now v ≡ Some z) → (p q : Place) (i : Instr) → marks_otherwise sizes p i ≡ false → marks_otherwise now q i ≡ false
  marked_again sizes now h p q (Instr.Call r must_tail ty callee args) e = both_false (is_marker callee) (marks sizes args) (marks now args) (marks_again sizes now h args) e
  marked_again sizes now h p q _ e = refl

  -- what is lowered marks nothing
  marks_none : (sizes : ℕ → Option ℕ) (q : Place) (j : ℕ) (y : Intrinsic) (r : Option ℕ) (ty : Option Ty) (args : List Arg) (i : Instr) → Replaces s part j y r ty args i → marks_otherwise sizes q i ≡ false
  marks_none sizes q j y r ty args _ (Number v w z a b c d) = refl
  marks_none sizes q j y r ty args _ (Truth v b c d) = refl
  marks_none sizes q j y r ty args _ (Address v p z a b c) = refl
  marks_none sizes q j y r ty args _ (StoresResume p a b) = refl
  marks_none sizes q j y r ty args _ (StoresDestroy p a b) = refl
  marks_none sizes q j y r ty args _ (StoresCleanup p a b c) = refl
  marks_none sizes q j y r ty args _ (StoresNull p a) = refl
  marks_none sizes q j y r ty args _ (StoresIndex i p a b) = refl
  marks_none sizes q j y r ty args _ (Loads v p a b) = refl
  marks_none sizes q j y r ty args _ (Calls v p a b) = refl
  marks_none sizes q j y r ty args _ (Tests v a b) = refl

  pub marks_kept : (l : ℕ) (g : Function) → IsPartOf s f part g → first_other_mark n l g ≡ None
  marks_kept l g is =
      let y = pruned_part s part f g is in
      let slots : (v z : ℕ) → slot_size m f v ≡ Some z → slot_size n g v ≡ Some z = subst (λ (q : Function). (v z : ℕ) → slot_size m f v ≡ Some z → slot_size n q v ≡ Some z) (sym y.is) (slots_stay y.before y.blocks y.names) in
      part_carried s part 0 (either (on_instr (marks_otherwise (slot_size m f))) (calls_otherwise m)) (on_instr (marks_otherwise (slot_size n g)))
      (instr_carried m n parts s part (saves_below f layout) (marks_otherwise (slot_size m f)) (marks_otherwise (slot_size n g)) (marked_again (slot_size m f) (slot_size n g) slots) (marks_none (slot_size n g)) (λ q. (refl, (refl, tt))))
      (omega arith) k l f g is (λ p q e. refl)
      (no_either (on_instr (marks_otherwise (slot_size m f))) (calls_otherwise m) (parts_of k f) x.rules.local.marks x.rules.calls)

pub part_marks_kept : (m n : Module) (k l : ℕ) (layout : Layout) (part : Part) (begin : ℕ) (f g : Function) → HasPartsOf m n → IsSplittable m k f begin → IsPartOf (shape_of f layout) f part g → first_other_mark n l g ≡ None
part_marks_kept m n k l layout part begin f g parts x is = marks_kept m n k f begin parts x layout part l g is
