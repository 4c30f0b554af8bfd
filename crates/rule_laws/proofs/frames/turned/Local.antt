-- The result has its allocas in the entry block and marks them with their sizes (F3, K13), and defines what it names.
use Rattle.std.proofs.Common.{◌≡◌, ◌⊎◌, ⊎_elim, inl, inr, ℕ, ◌+◌, Bool, true, false, List, [], ◌∷◌, ◌++◌, length, refl, sym, ap, ◌∙◌, subst}
use Rattle.std.specs.Prelude.{None, Option, Some, is_some, ◌==◌, if◌then◌else◌}
use Rattle.ir_laws.specs.ir_base.declared.outcome.Place.{Place}
use Rattle.rule_laws.proofs.rules.local_rules.Carried.{Passing, none_of, passing}
use Rattle.ir_laws.proofs.facts.Members.{each_joined, each_left, each_right}
use Rattle.ir_parts.specs.Parts.{Ending, Head, OfInstr, OfPhi, Part as FunctionPart, Signature, block_parts, blocks_parts, first_part, function_place, instr_parts, instr_place, parts_of, phi_parts}
use Rattle.pass_intrinsics.specs.Lowered.{lowered, names_taken}
use Rattle.pass_intrinsics.specs.declared.shape.Part.{Part}
use Rattle.pass_intrinsics.specs.declared.shape.Shape.{Shape}
use Rattle.ir_laws.specs.ir_model.declared.instr.Instr.{Instr}
use Rattle.ir_laws.specs.ir_model.declared.instr.Phi.{Phi}
use Rattle.ir_laws.specs.ir_model.declared.instr.Terminator.{Terminator}
use Rattle.ir_laws.specs.ir_model.declared.module.Block.{Block}
use Rattle.ir_laws.specs.ir_model.declared.module.Function.{Function}
use Rattle.ir_laws.specs.ir_model.declared.module.Module.{Module}
use Rattle.rule_locals.specs.Entries.{allocates_late, first_late_alloca, is_past_entry}
use Rattle.rule_locals.specs.Instrs.{on_instr}
use Rattle.rule_locals.specs.Markers.{block_size, first_other_mark, made_size, marks_otherwise, slot_size}
use Rattle.ir_laws.specs.ir_locals.Tables.{first_in, or_first}
use Rattle.rule_laws.proofs.frames.turned.Turned.{AreTurned, Becomes, Destroyed, IsTurned, NoneTurned, OneTurned, Promised, Resumed, Same, Tested, becomes, names_behind, turned}
use Rattle.rule_laws.proofs.rules.turned.Turned.{IsOuter}
use Rattle.rule_laws.specs.frames.same_names.Parts.{HasPartsOf}
use Rattle.rule_laws.proofs.frames.replaced.Modules.{has_functions, size_there}
use Rattle.ir_laws.specs.run_laws.changed.Changed.{Each}
use Rattle.rule_values.specs.Kinds.{block_kind, instr_kind, kind_if, phi_kind}
use Rattle.rule_values.specs.declared.kinds.Kind.{Kind}

-- ---- rules carried block by block

-- What a rule gives of the instructions of the block at a position, and what each of them becomes.
pub record Carries (s : Shape) (breaks now : Place → FunctionPart → Bool) : Type 0 where
  pub head : (p q : Place) (b c : Block) → breaks p (Head b) ≡ false → now q (Head c) ≡ false
  pub phi : (p q : Place) (x : Phi) → breaks p (OfPhi x) ≡ false → now q (OfPhi x) ≡ false
  pub instr : (p : Place) (n : ℕ) (i : Instr) → IsOuter i → breaks p (OfInstr i) ≡ false → Each (λ (j : Instr). (q : Place) → q.block ≡ p.block → now q (OfInstr j) ≡ false) (lowered s Part.Ramp n i)
  pub ending : (p q : Place) (t : Terminator) → breaks p (Ending t) ≡ false → now q (Ending t) ≡ false

module _ (s : Shape) (breaks now : Place → FunctionPart → Bool) (over : Carries s breaks now) (k l : ℕ) where
  phis_carried : (block at : ℕ) (ps : List Phi) → Passing breaks (phi_parts k block at ps) → Passing now (phi_parts l block at ps)
  phis_carried block at [] h = tt
  phis_carried block at (p ∷ ps) h = (over.phi (instr_place k block at) (instr_place l block at) p h.0, phis_carried block (at + 1) ps h.1)

  placed : (block : ℕ) (p : Place) (js ks : List Instr) → p.block ≡ Some block → Each (λ (j : Instr). (q : Place) → q.block ≡ p.block → now q (OfInstr j) ≡ false) js → ((at : ℕ) → Passing now (instr_parts l block at ks)) → (at : ℕ) → Passing now (instr_parts l block at (js ++ ks))
  placed block p [] ks e h rest at = rest at
  placed block p (j ∷ js) ks e h rest at = (h.0 (instr_place l block at) (sym e), placed block p js ks e h.1 rest (at + 1))

  instrs_carried : (block at n : ℕ) (is : List Instr) → Each IsOuter is → Passing breaks (instr_parts k block at is) → (now_at : ℕ) → Passing now (instr_parts l block now_at (turned s n is))
  instrs_carried block at n [] o h now_at = tt
  instrs_carried block at n (i ∷ is) o h now_at =
      placed block (instr_place k block at) (lowered s Part.Ramp n i) (turned s (n + names_taken i) is) refl (over.instr (instr_place k block at) n i o.0 h.0)
      (instrs_carried block (at + 1) (n + names_taken i) is o.1 h.1) now_at

  block_carried : (n block : ℕ) (b c : Block) → IsTurned s n b c → Passing breaks (block_parts k block b) → Passing now (block_parts l block c)
  unfolding block_parts
  block_carried n block b c t h =
      let P : Place × FunctionPart → Type 0 = λ x. breaks x.0 x.1 ≡ false in
      let Q : Place × FunctionPart → Type 0 = λ x. now x.0 x.1 ≡ false in
      let phis : List (Place × FunctionPart) = phi_parts k block 0 b.phis in
      let instrs : List (Place × FunctionPart) = instr_parts k block (length b.phis) b.instrs in
      let old : Place = instr_place k block (length b.phis + length b.instrs) in
      let new : Place = instr_place l block (length c.phis + length c.instrs) in
      let behind : Passing breaks (instrs ++ (old, Ending b.term) ∷ []) = each_right P phis (instrs ++ (old, Ending b.term) ∷ []) h.1 in (
        over.head (record { item = (function_place k).item; block = Some block; instr = None }) (record { item = (function_place l).item; block = Some block; instr = None }) b c h.0,
        each_joined Q (phi_parts l block 0 c.phis) (instr_parts l block (length c.phis) c.instrs ++ (new, Ending c.term) ∷ [])
            (subst (λ (ps : List Phi). Passing now (phi_parts l block 0 ps)) (sym t.phis) (phis_carried block 0 b.phis (each_left P phis (instrs ++ (old, Ending b.term) ∷ []) h.1)))
            (each_joined Q (instr_parts l block (length c.phis) c.instrs) ((new, Ending c.term) ∷ [])
            (subst (λ (js : List Instr). Passing now (instr_parts l block (length c.phis) js)) (sym t.instrs) (instrs_carried block (length b.phis) n b.instrs t.outer (each_left P instrs ((old, Ending b.term) ∷ []) behind) (length c.phis)))
            (ap (λ (u : Terminator). now new (Ending u)) t.term ∙ over.ending old new b.term (each_right P instrs ((old, Ending b.term) ∷ []) behind).0, tt)),
      )

  blocks_carried : (n block : ℕ) (bs cs : List Block) → AreTurned s n bs cs → Passing breaks (blocks_parts k block bs) → Passing now (blocks_parts l block cs)
  blocks_carried _ block _ _ (NoneTurned n) h = tt
  blocks_carried _ block _ _ (OneTurned n b c bs cs t rest) h =
      each_joined (λ x. now x.0 x.1 ≡ false) (block_parts l block c) (blocks_parts l (block + 1) cs)
      (block_carried n block b c t (each_left (λ x. breaks x.0 x.1 ≡ false) (block_parts k block b) (blocks_parts k (block + 1) bs) h))
      (blocks_carried (names_behind n b.instrs) (block + 1) bs cs rest (each_right (λ x. breaks x.0 x.1 ≡ false) (block_parts k block b) (blocks_parts k (block + 1) bs) h))

  pub carried : (f g : Function) (n : ℕ) → AreTurned s n f.blocks g.blocks → ((p : Place) → now p (Signature g) ≡ false) → first_part breaks (parts_of k f) ≡ None → first_part now (parts_of l g) ≡ None
  carried f g n blocks signature e = none_of now (parts_of l g) (signature (function_place l), blocks_carried n 0 f.blocks g.blocks blocks (passing breaks (parts_of k f) e).1)

-- ---- F3

same_late : (p q : Place) (i : Instr) → q.block ≡ p.block → allocates_late q i ≡ allocates_late p i
same_late p q (Instr.Alloca r ty align) e = ap is_past_entry e
same_late p q _ e = refl

late_becomes : (p : Place) (n : ℕ) (i : Instr) (js : List Instr) (taken : ℕ) → Becomes n i js taken → allocates_late p i ≡ false → Each (λ (j : Instr). (q : Place) → q.block ≡ p.block → allocates_late q j ≡ false) js
late_becomes p n _ _ _ (Same i) e = ((λ q same. same_late p q i same ∙ e), tt)
late_becomes p n _ _ _ (Resumed must_tail ty args) e = ((λ q same. refl), ((λ q same. refl), tt))
late_becomes p n _ _ _ (Destroyed must_tail ty args) e = ((λ q same. refl), ((λ q same. refl), ((λ q same. refl), tt)))
late_becomes p n _ _ _ (Tested None must_tail ty args) e = tt
late_becomes p n _ _ _ (Tested (Some r) must_tail ty args) e = ((λ q same. refl), ((λ q same. refl), tt))
late_becomes p n _ _ _ (Promised None must_tail ty args) e = tt
late_becomes p n _ _ _ (Promised (Some r) must_tail ty args) e = ((λ q same. refl), tt)

pub late_turned : (s : Shape) (k l : ℕ) (f g : Function) (n : ℕ) → AreTurned s n f.blocks g.blocks → first_late_alloca k f ≡ None → first_late_alloca l g ≡ None
late_turned s k l f g n blocks =
    carried s (on_instr allocates_late) (on_instr allocates_late)
    (record { head = λ p q b c e. refl; phi = λ p q x e. refl; instr = λ p m i o e. late_becomes p m i (lowered s Part.Ramp m i) (names_taken i) (becomes s m i o) e; ending = λ p q t e. refl })
    k l f g n blocks (λ p. refl)

-- ---- K13

first_joined : {A K : Type 0} (kind : A → ℕ → Option K) (xs ys : List A) (v : ℕ) → first_in kind (xs ++ ys) v ≡ or_first (first_in kind xs v) (first_in kind ys v)
first_joined kind [] ys v = refl
first_joined {A} {K} kind (x ∷ xs) ys v = ap (or_first (kind x v)) (first_joined kind xs ys v) ∙ on (kind x v)
  where
    on : (o : Option K) → or_first o (or_first (first_in kind xs v) (first_in kind ys v)) ≡ or_first (or_first o (first_in kind xs v)) (first_in kind ys v)
    on None = refl
    on (Some y) = refl

or_none : {K : Type 0} (o : Option K) → or_first o None ≡ o
or_none None = refl
or_none (Some y) = refl

module _ (m n : Module) (h : HasPartsOf m n) where
  same_made : (i : Instr) (v : ℕ) → made_size n i v ≡ made_size m i v
  same_made (Instr.Alloca r ty align) v = ap (λ (size : ℕ). if r == v then Some size else None) (size_there m n (has_functions m n h) ty)
  same_made _ v = refl

  size_becomes : (first : ℕ) (i : Instr) (js : List Instr) (taken v : ℕ) → Becomes first i js taken → first_in (made_size n) js v ≡ made_size m i v
  size_becomes first _ _ _ v (Same i) = or_none (made_size n i v) ∙ same_made i v
  size_becomes first _ _ _ v (Resumed must_tail ty args) = refl
  size_becomes first _ _ _ v (Destroyed must_tail ty args) = refl
  size_becomes first _ _ _ v (Tested None must_tail ty args) = refl
  size_becomes first _ _ _ v (Tested (Some r) must_tail ty args) = refl
  size_becomes first _ _ _ v (Promised None must_tail ty args) = refl
  size_becomes first _ _ _ v (Promised (Some r) must_tail ty args) = refl

  sizes_turned : (s : Shape) (first : ℕ) (is : List Instr) (v : ℕ) → Each IsOuter is → first_in (made_size n) (turned s first is) v ≡ first_in (made_size m) is v
  sizes_turned s first [] v o = refl
  sizes_turned s first (i ∷ is) v o =
      first_joined (made_size n) (lowered s Part.Ramp first i) (turned s (first + names_taken i) is) v
      ∙ (λ k. or_first (size_becomes first i (lowered s Part.Ramp first i) (names_taken i) v (becomes s first i o.0) k) (sizes_turned s (first + names_taken i) is v o.1 k))

  sizes_of_blocks : (s : Shape) (first : ℕ) (bs cs : List Block) (v : ℕ) → AreTurned s first bs cs → first_in (block_size n) cs v ≡ first_in (block_size m) bs v
  sizes_of_blocks s _ _ _ v (NoneTurned first) = refl
  sizes_of_blocks s _ _ _ v (OneTurned first b c bs cs t rest) =
      λ k. or_first ((ap (λ (js : List Instr). first_in (made_size n) js v) t.instrs ∙ sizes_turned s first b.instrs v t.outer) k) (sizes_of_blocks s (names_behind first b.instrs) bs cs v rest k)

  mark_becomes : (sizes : ℕ → Option ℕ) (p : Place) (first : ℕ) (i : Instr) (js : List Instr) (taken : ℕ) → Becomes first i js taken → marks_otherwise sizes p i ≡ false → Each (λ (j : Instr). (q : Place) → q.block ≡ p.block → marks_otherwise sizes q j ≡ false) js
  mark_becomes sizes p first _ _ _ (Same (Instr.Call r must_tail ty callee args)) e = ((λ q same. e), tt)
  mark_becomes sizes p first _ _ _ (Same i) e = ((λ q same. refl), tt)
  mark_becomes sizes p first _ _ _ (Resumed must_tail ty args) e = ((λ q same. refl), ((λ q same. refl), tt))
  mark_becomes sizes p first _ _ _ (Destroyed must_tail ty args) e = ((λ q same. refl), ((λ q same. refl), ((λ q same. refl), tt)))
  mark_becomes sizes p first _ _ _ (Tested None must_tail ty args) e = tt
  mark_becomes sizes p first _ _ _ (Tested (Some r) must_tail ty args) e = ((λ q same. refl), ((λ q same. refl), tt))
  mark_becomes sizes p first _ _ _ (Promised None must_tail ty args) e = tt
  mark_becomes sizes p first _ _ _ (Promised (Some r) must_tail ty args) e = ((λ q same. refl), tt)

  pub marks_turned : (s : Shape) (k l : ℕ) (f g : Function) (first : ℕ) → AreTurned s first f.blocks g.blocks → first_other_mark m k f ≡ None → first_other_mark n l g ≡ None
  marks_turned s k l f g first blocks e =
      ap (λ (sizes : ℕ → Option ℕ). first_part (on_instr (marks_otherwise sizes)) (parts_of l g)) (λ k v. sizes_of_blocks s first f.blocks g.blocks v blocks k)
      ∙ carried s (on_instr (marks_otherwise (slot_size m f))) (on_instr (marks_otherwise (slot_size m f)))
      (record { head = λ p q b c d. refl; phi = λ p q x d. refl; instr = λ p at i o d. mark_becomes (slot_size m f) p at i (lowered s Part.Ramp at i) (names_taken i) (becomes s at i o) d; ending = λ p q t d. refl })
      k l f g first blocks (λ p. refl) e

-- ---- values that are defined

pub some_or : {K : Type 0} (a b : Option K) → is_some a ≡ true → is_some (or_first a b) ≡ true
some_or None b e = absurd (cc)
some_or (Some x) b e = refl

pub some_behind : {K : Type 0} (a b : Option K) → is_some b ≡ true → is_some (or_first a b) ≡ true
some_behind None b e = e
some_behind (Some x) b e = refl

pub either_some : {K : Type 0} (a b : Option K) → is_some (or_first a b) ≡ true → (is_some a ≡ true) ⊎ (is_some b ≡ true)
either_some None b e = inr e
either_some (Some x) b e = inl refl

some_number : (r v : ℕ) (x y : Kind) → is_some (kind_if r x v) ≡ true → is_some (kind_if r y v) ≡ true
some_number r v x y = on (r == v)
  where
    on : (b : Bool) → is_some (if b then Some x else None) ≡ true → is_some (if b then Some y else None) ≡ true
    on true e = refl
    on false e = e

kind_becomes : (n : ℕ) (i : Instr) (js : List Instr) (taken v : ℕ) → Becomes n i js taken → is_some (instr_kind i v) ≡ true → is_some (first_in instr_kind js v) ≡ true
kind_becomes n _ _ _ v (Same i) e = some_or (instr_kind i v) None e
kind_becomes n _ _ _ v (Resumed must_tail ty args) e = absurd (cc)
kind_becomes n _ _ _ v (Destroyed must_tail ty args) e = absurd (cc)
kind_becomes n _ _ _ v (Tested None must_tail ty args) e = absurd (cc)
kind_becomes n _ _ _ v (Tested (Some r) must_tail ty args) e = some_behind (kind_if n Kind.Ptr v) (or_first (kind_if r (Kind.Int 1) v) None) (some_or (kind_if r (Kind.Int 1) v) None (some_number r v _ (Kind.Int 1) e))
kind_becomes n _ _ _ v (Promised None must_tail ty args) e = absurd (cc)
kind_becomes n _ _ _ v (Promised (Some r) must_tail ty args) e = some_or (kind_if r Kind.Ptr v) None (some_number r v _ Kind.Ptr e)

kinds_turned : (s : Shape) (n : ℕ) (is : List Instr) (v : ℕ) → Each IsOuter is → is_some (first_in instr_kind is v) ≡ true → is_some (first_in instr_kind (turned s n is) v) ≡ true
kinds_turned s n [] v o e = e
kinds_turned s n (i ∷ is) v o e =
    ap is_some (first_joined instr_kind (lowered s Part.Ramp n i) (turned s (n + names_taken i) is) v)
    ∙ ⊎_elim
    (λ here. some_or (first_in instr_kind (lowered s Part.Ramp n i) v) (first_in instr_kind (turned s (n + names_taken i) is) v) (kind_becomes n i (lowered s Part.Ramp n i) (names_taken i) v (becomes s n i o.0) here))
    (λ more. some_behind (first_in instr_kind (lowered s Part.Ramp n i) v) (first_in instr_kind (turned s (n + names_taken i) is) v) (kinds_turned s (n + names_taken i) is v o.1 more))
    (either_some (instr_kind i v) (first_in instr_kind is v) e)

pub kinds_of_blocks : (s : Shape) (n : ℕ) (bs cs : List Block) (v : ℕ) → AreTurned s n bs cs → is_some (first_in block_kind bs v) ≡ true → is_some (first_in block_kind cs v) ≡ true
kinds_of_blocks s _ _ _ v (NoneTurned n) e = e
kinds_of_blocks s _ _ _ v (OneTurned n b c bs cs t rest) e =
    ⊎_elim
    (λ here. some_or (block_kind c v) (first_in block_kind cs v)
    (⊎_elim
    (λ p. some_or (first_in phi_kind c.phis v) (first_in instr_kind c.instrs v) (subst (λ (ps : List Phi). is_some (first_in phi_kind ps v) ≡ true) (sym t.phis) p))
    (λ i. some_behind (first_in phi_kind c.phis v) (first_in instr_kind c.instrs v) (subst (λ (js : List Instr). is_some (first_in instr_kind js v) ≡ true) (sym t.instrs) (kinds_turned s n b.instrs v t.outer i)))
    (either_some (first_in phi_kind b.phis v) (first_in instr_kind b.instrs v) here)))
    (λ more. some_behind (block_kind c v) (first_in block_kind cs v) (kinds_of_blocks s (names_behind n b.instrs) bs cs v rest more))
    (either_some (block_kind b v) (first_in block_kind bs v) e)
