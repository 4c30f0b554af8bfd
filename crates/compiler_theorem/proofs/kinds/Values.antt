-- A value that is kept in a cell is held, with as many bytes as its field has.
use Rattle.std.proofs.Common.{◌≡◌, ◌⊎◌, inl, inr, ⊎_elim, ℕ, zero, suc, ◌+◌, ◌==◌, ◌||◌, Bool, true, false, List, [], ◌∷◌, ◌++◌, length, Option, Some, None, refl, sym, ap, ◌∙◌, subst, arith}
use Rattle.std.specs.Prelude.{flat_map, if◌then◌else◌, slice_get}
use Rattle.compiler_theorem.proofs.kinds.Held.{listed_placed}
use Rattle.compiler_theorem.specs.kinds.Held.{IsHeldAsValue}
use Rattle.compiler.specs.flow_solver.Paths.{IsListed}
use Rattle.compiler.specs.frame_contents.Held.{answer_size, crossing_values, frame_slots, held_blocks, held_instr, held_instrs, held_params, held_phis, if_result, if_value, value_held, value_size}
use Rattle.compiler.specs.frame_contents.declared.held.Holding.{Holding}
use Rattle.compiler.proofs.ir_laws.facts.Truth.{equal_numbers, itself}
use Rattle.compiler.proofs.ir_laws.paths.source_rules.Locals.{listed_left, listed_right}
use Rattle.compiler.specs.ir_locals.Tables.{first_in, or_first}
use Rattle.compiler.specs.ir_model.Layout.{bytes_of_width}
use Rattle.compiler.specs.ir_model.Ty.{Ty, array, int, named, ptr, structure, token}
use Rattle.compiler.specs.ir_model.declared.instr.Instr.{Instr}
use Rattle.compiler.specs.ir_model.declared.instr.Phi.{Phi}
use Rattle.compiler.specs.ir_model.declared.module.Block.{Block}
use Rattle.compiler.specs.ir_model.declared.module.Module.{Module}
use Rattle.compiler.specs.ir_model.declared.module.Param.{Param}
use Rattle.compiler.specs.ir_model.declared.operand.Callee.{Callee}
use Rattle.compiler.specs.ir_model.declared.operand.Intrinsic.{Intrinsic}
use Rattle.compiler.specs.ir_paths.Slots.{allocas_in, allocas_of, has_name, promise_of}
use Rattle.compiler.specs.frame_classes.declared.class.SlotClass.{SlotClass}
use Rattle.compiler.specs.pass_cells.Kept.{entry, value_types}
use Rattle.compiler.specs.pass_cells.Links.{bases_of, cell_name, field_name, slots_of}
use Rattle.compiler.specs.pass_cells.Plan.{kept_from, kept_value, type_at}
use Rattle.compiler.specs.pass_cells.declared.plan.KeptValue.{KeptValue}
use Rattle.compiler.specs.pass_fetch.Fetching.{value_bytes}
use Rattle.compiler.specs.pass_frames.Tables.{class_flags}
use Rattle.pass_frames_meaning.proofs.begun.Begun.{first}
use Rattle.pass_frames_meaning.proofs.kinds.Unkept.{alloca_unkept}
use Rattle.pass_frames_meaning.proofs.pass_frames_proof.code.Names.{Kept, keeping}
use Rattle.pass_frames_meaning.specs.pass_frames_proof.Framings.{IsFraming}
use Rattle.pass_frames_meaning.specs.pass_frames_proof.Places.{Framing, edged, plan}
use Rattle.pass_frames_meaning.specs.pass_frames_proof.Related.{IsKeptValue}
use Rattle.compiler.proofs.pass_proofs.cells.rules.Keeping.{keeping_is}
use Rattle.compiler.proofs.pass_proofs.cells.rules.Whole.{planned}
use Rattle.compiler.proofs.pass_proofs.edges.rules.Noted.{kinds_same}
use Rattle.compiler.proofs.pass_proofs.edges.paths.Slots.{same_allocas}
use Rattle.compiler.proofs.rule_laws.rules.counted.Types.{is_cell_type}
use Rattle.compiler.proofs.rule_laws.rules.shape.Stands.{StandsAt, begin_stands}
use Rattle.compiler.specs.rule_laws.rules.function_rules.Kept.{KeepsFunctionRules}
use Rattle.compiler.specs.rule_values.Fits.{fits_kind}
use Rattle.compiler.specs.rule_values.Kinds.{block_kind, call_kind, instr_kind, kind_of, param_kind, phi_kind, result_kind, value_kind}
use Rattle.compiler.specs.rule_values.declared.kinds.Kind.{Kind}

-- ---- sizes

abbrev kind_size : Kind → ℕ
kind_size (Kind.Int w) = bytes_of_width w
kind_size Kind.Ptr = 8
kind_size _ = 0

size_of_kind : (t : Ty) → value_size t ≡ kind_size (kind_of t)
size_of_kind (int w) = refl
size_of_kind ptr = refl
size_of_kind token = refl
size_of_kind (array n t) = refl
size_of_kind (structure ts) = refl
size_of_kind (named n) = refl

kind_cases : (callee : Callee) (t : Ty)
    → (result_kind callee (Some t) ≡ kind_of t) ⊎ (result_kind callee (Some t) ≡ Kind.Saved)
kind_cases (Callee.Intrinsic Intrinsic.CoroSave) t = inr refl
kind_cases (Callee.Intrinsic _) t = inl refl
kind_cases (Callee.Named n) t = inl refl
kind_cases (Callee.Allocator a) t = inl refl
kind_cases (Callee.Local n) t = inl refl

-- a number or a pointer
abbrev IsKept : Kind → Type 0
IsKept (Kind.Int w) = Unit {0}
IsKept Kind.Ptr = Unit {0}
IsKept _ = ⊥

module _ (m : Module) (promise : Option ℕ) (is_value is_slot : ℕ → Bool) (v : ℕ) (yes : is_value v ≡ true) (K : Kind)
    (kept : IsKept K) where
  abbrev H : Holding
  H = value_held v (kind_size K)

  -- what gives the name holds it
  given : (r : ℕ) (kind : Kind) (size : ℕ) → (if r == v then Some kind else None) ≡ Some K → size ≡ kind_size kind
      → IsListed H (if_value is_value r size)
  given r kind size e sized = on (r == v) refl e
    where
      on : (b : Bool) → (r == v) ≡ b → (if b then Some kind else None) ≡ Some K → IsListed H (if_value is_value r size)
      on false d h = absurd (cc)
      on true d h =
          let same : r ≡ v = equal_numbers r v d in
          let kind_is : kind ≡ K = cc in
          let size_is : size ≡ kind_size K = sized ∙ ap kind_size kind_is in
          subst (λ (q : ℕ × ℕ). IsListed H (if_value is_value q.0 q.1)) (λ j. (sym same j, sym size_is j))
          (subst (λ (b : Bool). IsListed H (if b then H ∷ [] else [])) (sym yes) (inl refl))

  either : (first rest : Option Kind) → or_first first rest ≡ Some K → (first ≡ Some K) ⊎ (rest ≡ Some K)
  either None rest e = inr e
  either (Some k) rest e = inl e

  params_held : (ps : List Param) → first_in param_kind ps v ≡ Some K → IsListed H (held_params is_value ps)
  params_held [] e = absurd (cc)
  params_held (p ∷ ps) e = ⊎_elim
      (λ here. listed_left H (if_value is_value p.name (value_size p.ty)) (held_params is_value ps)
      (given p.name (kind_of p.ty) (value_size p.ty) here (size_of_kind p.ty)))
      (λ more. listed_right H (if_value is_value p.name (value_size p.ty)) (held_params is_value ps)
      (params_held ps more))
      (either (param_kind p v) (first_in param_kind ps v) e)

  phis_held : (ps : List Phi) → first_in phi_kind ps v ≡ Some K → IsListed H (held_phis is_value ps)
  phis_held [] e = absurd (cc)
  phis_held (p ∷ ps) e = ⊎_elim
      (λ here. listed_left H (if_value is_value p.result (value_size p.ty)) (held_phis is_value ps)
      (given p.result (kind_of p.ty) (value_size p.ty) here (size_of_kind p.ty)))
      (λ more. listed_right H (if_value is_value p.result (value_size p.ty)) (held_phis is_value ps)
      (phis_held ps more))
      (either (phi_kind p v) (first_in phi_kind ps v) e)

  saved : (b : Bool) → (if b then Some Kind.Saved else None) ≡ Some K → ⊥
  saved false h = cc
  saved true h = let same : K ≡ Kind.Saved = cc in subst IsKept same kept

  call_held : (r : Option ℕ) (ty : Option Ty) (callee : Callee) → call_kind r (result_kind callee ty) v ≡ Some K
      → IsListed H (if_result is_value r (answer_size ty))
  call_held None ty callee e = absurd (cc)
  call_held (Some r) None callee e = given r Kind.Other 0 e refl
  call_held (Some r) (Some t) callee e = ⊎_elim
      (λ is. given r (kind_of t) (value_size t)
      (ap (λ (k : Kind). if r == v then Some k else None) (sym is) ∙ e) (size_of_kind t))
      (λ is. absurd (saved (r == v) (ap (λ (k : Kind). if r == v then Some k else None) (sym is) ∙ e)))
      (kind_cases callee t)

  instr_held : (i : Instr) → (IsListed v (allocas_in (i ∷ [])) → ⊥) → instr_kind i v ≡ Some K
      → IsListed H (held_instr m promise is_value is_slot i)
  instr_held (Instr.Binary r op flags ty left right) none e = given r (kind_of ty) (value_size ty) e (size_of_kind ty)
  instr_held (Instr.Icmp r pred ty left right) none e = given r (Kind.Int 1) 1 e refl
  instr_held (Instr.Select r c a b) none e = given r (kind_of a.ty) (value_size a.ty) e (size_of_kind a.ty)
  instr_held (Instr.Cast r op nneg arg to) none e = given r (kind_of to) (value_size to) e (size_of_kind to)
  instr_held (Instr.Alloca r ty align) none e = on (r == v) refl e
    where
      on : (b : Bool) → (r == v) ≡ b → (if b then Some Kind.Ptr else None) ≡ Some K
          → IsListed H (held_instr m promise is_value is_slot (Instr.Alloca r ty align))
      on true d h = absurd (none (inl (sym (equal_numbers r v d))))
      on false d h = absurd (cc)
  instr_held (Instr.Load r ty address align) none e = given r (kind_of ty) (value_size ty) e (size_of_kind ty)
  instr_held (Instr.Store arg address align) none e = absurd (cc)
  instr_held (Instr.Gep r inbounds ty base indices) none e = given r Kind.Ptr 8 e refl
  instr_held (Instr.Call r must_tail ty callee args) none e = call_held r ty callee e

  first_alloca : (i : Instr) (is : List Instr) → IsListed v (allocas_in (i ∷ [])) → IsListed v (allocas_in (i ∷ is))
  first_alloca (Instr.Alloca r ty align) is (inl e) = inl e
  first_alloca (Instr.Alloca r ty align) is (inr l) = absurd l
  first_alloca _ is l = absurd l

  more_allocas : (i : Instr) (is : List Instr) → IsListed v (allocas_in is) → IsListed v (allocas_in (i ∷ is))
  more_allocas (Instr.Alloca r ty align) is l = inr l
  more_allocas _ is l = l

  instrs_held : (is : List Instr) → (IsListed v (allocas_in is) → ⊥) → first_in instr_kind is v ≡ Some K
      → IsListed H (held_instrs m promise is_value is_slot is)
  instrs_held [] none e = absurd (cc)
  instrs_held (i ∷ is) none e = ⊎_elim
      (λ here. listed_left H (held_instr m promise is_value is_slot i) (held_instrs m promise is_value is_slot is)
      (instr_held i (λ l. none (first_alloca i is l)) here))
      (λ more. listed_right H (held_instr m promise is_value is_slot i) (held_instrs m promise is_value is_slot is)
      (instrs_held is (λ l. none (more_allocas i is l)) more))
      (either (instr_kind i v) (first_in instr_kind is v) e)

  blocks_held : (bs : List Block) → (IsListed v (flat_map (λ (b : Block). allocas_in b.instrs) bs) → ⊥)
      → first_in block_kind bs v ≡ Some K → IsListed H (held_blocks m promise is_value is_slot bs)
  blocks_held [] none e = absurd (cc)
  blocks_held (b ∷ bs) none e =
      let phis : List Holding = held_phis is_value b.phis in
      let instrs : List Holding = held_instrs m promise is_value is_slot b.instrs in
      let rest : List Holding = held_blocks m promise is_value is_slot bs in
      ⊎_elim
      (λ here. ⊎_elim
      (λ phi. listed_left H (phis ++ instrs) rest (listed_left H phis instrs (phis_held b.phis phi)))
      (λ instr. listed_left H (phis ++ instrs) rest (listed_right H phis instrs
      (instrs_held b.instrs (λ l. none (listed_left v (allocas_in b.instrs)
      (flat_map (λ (c : Block). allocas_in c.instrs) bs) l)) instr)))
      (either (first_in phi_kind b.phis v) (first_in instr_kind b.instrs v) here))
      (λ more. listed_right H (phis ++ instrs) rest
      (blocks_held bs (λ l. none (listed_right v (allocas_in b.instrs)
      (flat_map (λ (c : Block). allocas_in c.instrs) bs) l)) more))
      (either (block_kind b v) (first_in block_kind bs v) e)

-- ---- what is kept

kept_at : (first count : ℕ) (types : List Ty) (cells slots : List (Option ℕ)) (k : ℕ) (vs : List ℕ) (n v : ℕ)
    → slice_get vs n ≡ Some v
    → slice_get (kept_from first count types cells slots k vs) n
    ≡ Some (kept_value (cell_name first (k + n)) (field_name first count (k + n)) (type_at types (k + n)) (entry cells v)
    (entry slots v))
kept_at first count types cells slots k [] n v e = absurd (cc)
kept_at first count types cells slots k (u ∷ vs) zero v e =
    let same : u ≡ v = cc in
    let here : k ≡ k + 0 = omega arith in
    λ j. Some (kept_value (cell_name first (here j)) (field_name first count (here j)) (type_at types (here j))
    (entry cells (same j)) (entry slots (same j)))
kept_at first count types cells slots k (u ∷ vs) (suc n) v e =
    let next : k + 1 + n ≡ k + suc n = omega arith in
    kept_at first count types cells slots (k + 1) vs n v e
    ∙ (λ j. Some (kept_value (cell_name first (next j)) (field_name first count (next j)) (type_at types (next j))
    (entry cells v) (entry slots v)))

-- its field has the value, or is for a distance, of 64 bits
field_kind : (cell field : ℕ) (t : Ty) (o slot : Option ℕ)
    → ((o ≡ None) × ((kept_value cell field t o slot).field_ty ≡ (kept_value cell field t o slot).ty))
    ⊎ ((d : ℕ) × (o ≡ Some d) × ((kept_value cell field t o slot).field_ty ≡ int 64))
field_kind cell field t None slot = inl (refl, refl)
field_kind cell field t (Some d) slot = inr (d, refl, refl)

bytes_of_kind : (t : Ty) → is_cell_type t ≡ true → value_bytes t ≡ kind_size (kind_of t)
bytes_of_kind (int w) e = refl
bytes_of_kind ptr e = refl
bytes_of_kind token e = absurd (cc)
bytes_of_kind (array n t) e = absurd (cc)
bytes_of_kind (structure ts) e = absurd (cc)
bytes_of_kind (named n) e = absurd (cc)

kept_kind : (t : Ty) → is_cell_type t ≡ true → IsKept (kind_of t)
kept_kind (int w) e = tt
kept_kind ptr e = tt
kept_kind token e = absurd (cc)
kept_kind (array n t) e = absurd (cc)
kept_kind (structure ts) e = absurd (cc)
kept_kind (named n) e = absurd (cc)

-- it is no token
cell_no_token : (t : Ty) → is_cell_type t ≡ true → fits_kind (Some (kind_of t)) token ≡ true → ⊥
cell_no_token (int w) e h = absurd (cc)
cell_no_token ptr e h = absurd (cc)
cell_no_token token e h = absurd (cc)
cell_no_token (array n t) e h = absurd (cc)
cell_no_token (structure ts) e h = absurd (cc)
cell_no_token (named n) e h = absurd (cc)

crossing_named : (v : ℕ) (ps : List (ℕ × ℕ)) (order : ℕ) → IsListed (v, order) ps → has_name (crossing_values ps) v ≡ true
crossing_named v [] order l = absurd l
crossing_named v (p ∷ ps) order (inl e) =
    ap (λ (b : Bool). b || has_name (crossing_values ps) v)
    (ap (λ (q : ℕ × ℕ). q.0 == v) (sym e) ∙ itself v)
crossing_named v (p ∷ ps) order (inr l) = or_more (p.0 == v) (has_name (crossing_values ps) v) (crossing_named v ps order l)
  where
    or_more : (b c : Bool) → c ≡ true → (b || c) ≡ true
    or_more true c h = refl
    or_more false c h = h

module _ (x : Framing) (is : IsFraming x) (position : ℕ) (rules : KeepsFunctionRules x.code position x.function)
    (v : ℕ) (k : KeptValue) (kept : IsKeptValue x v k)
    (gep : (d : ℕ) → entry (plan x).cells v ≡ Some d → value_kind (edged x) v ≡ Some Kind.Ptr) where
  abbrev local : List Bool
  local = class_flags x.function x.contents.classes SlotClass.Local

  same_value : (u w : KeptValue) → Some u ≡ Some w → u ≡ w
  same_value u w e = cc

  same_kind : (u w : Kind) → Some u ≡ Some w → u ≡ w
  same_kind u w e = cc

  -- ---- its type

  pub record IsTyped : Type 0 where
    pub kind : value_kind (edged x) v ≡ Some (kind_of k.ty)
    pub ty : is_cell_type k.ty ≡ true

  typed : IsTyped
  typed = on (edged x).blocks refl
    where
      S : StandsAt (edged x) Intrinsic.CoroBegin is.begin
      S = begin_stands (edged x) is.begin (first x is)

      on : (bs : List Block) → (edged x).blocks ≡ bs → IsTyped
      on [] e =
          let none : ◌≡◌ {A = Option Block} (slice_get [] S.position) (Some S.block) =
          ap (λ (cs : List Block). slice_get cs S.position) (sym e) ∙ S.got in
          absurd (nothing S.position S.block none)
        where
          nothing : (n : ℕ) (b : Block) → ◌≡◌ {A = Option Block} (slice_get [] n) (Some b) → ⊥
          nothing n b d = cc
      on (b ∷ bs) e =
          let told = planned x.code is.position (edged x) is.frameable.rules x.contents.crossing local is.frameable.cells b
          bs e in
          let there = told.places v kept.number kept.told in
          let same : there.value ≡ k = same_value there.value k (sym there.there ∙ kept.there) in
          record {
            kind = there.kind ∙ ap (λ (y : KeptValue). Some (kind_of y.ty)) same;
            ty = (told.kept kept.number k kept.there).ty;
          }

  pub no_token : fits_kind (value_kind (edged x) v) token ≡ true → ⊥
  no_token h = cell_no_token k.ty typed.ty (ap (λ (o : Option Kind). fits_kind o token) (sym typed.kind) ∙ h)

  -- ---- its field

  here : slice_get (Kept x is).values kept.number ≡ Some v
  here = (keeping x is).there v kept.number kept.told

  abbrev form : KeptValue
  form = kept_value (cell_name (length (edged x).names) (0 + kept.number))
      (field_name (length (edged x).names) (length (Kept x is).values) (0 + kept.number))
      (type_at (value_types (edged x) (Kept x is)) (0 + kept.number)) (entry (plan x).cells v)
      (entry (slots_of local (bases_of (edged x))) v)

  form_is : k ≡ form
  form_is =
      same_value k form (sym kept.there
      ∙ kept_at (length (edged x).names) (length (Kept x is).values) (value_types (edged x) (Kept x is)) (plan x).cells
      (slots_of local (bases_of (edged x))) 0 (Kept x is).values kept.number v here)

  bytes_are : value_bytes k.field_ty ≡ kind_size (kind_of k.ty)
  bytes_are = ⊎_elim
      (λ z.
      ap (λ (y : KeptValue). value_bytes y.field_ty) form_is ∙ ap value_bytes z.1
      ∙ sym (ap (λ (y : KeptValue). value_bytes y.ty) form_is) ∙ bytes_of_kind k.ty typed.ty)
      (λ z.
      ap (λ (y : KeptValue). value_bytes y.field_ty) form_is ∙ ap value_bytes z.2
      ∙ sym (ap kind_size (same_kind (kind_of k.ty) Kind.Ptr (sym typed.kind ∙ gep z.0 z.1))))
      (field_kind (cell_name (length (edged x).names) (0 + kept.number))
      (field_name (length (edged x).names) (length (Kept x is).values) (0 + kept.number))
      (type_at (value_types (edged x) (Kept x is)) (0 + kept.number)) (entry (plan x).cells v)
      (entry (slots_of local (bases_of (edged x))) v))

  -- ---- where it is held

  crosses : has_name (crossing_values x.contents.crossing) v ≡ true
  crosses =
      (keeping_is (length (edged x).names) (λ (u : ℕ). has_name (crossing_values x.contents.crossing) u ≡ true)
      x.contents.crossing (λ p l. crossing_named p.0 x.contents.crossing p.1 l)).holds v kept.number here

  no_alloca : IsListed v (allocas_of x.function) → ⊥
  no_alloca l =
      let none = alloca_unkept x is v (subst (IsListed v) (sym (same_allocas x.function)) l) in
      let no : None ≡ Some kept.number = sym none ∙ kept.told in
      absurd (cc)

  abbrev K : Kind
  K = kind_of k.ty

  own_kind : value_kind x.function v ≡ Some K
  own_kind = sym (ap (λ (g : ℕ → Option Kind). g v) (kinds_same x.function)) ∙ typed.kind

  abbrev is_value : ℕ → Bool
  is_value u = has_name (crossing_values x.contents.crossing) u

  abbrev is_slot : ℕ → Bool
  is_slot u = has_name (frame_slots x.function x.contents.classes) u

  is_held : IsListed (value_held v (kind_size K)) x.contents.held
  is_held =
      let params : List Holding = held_params is_value x.function.params in
      let blocks : List Holding = held_blocks x.code (promise_of x.function) is_value is_slot x.function.blocks in
      subst (IsListed (value_held v (kind_size K))) (sym is.frameable.contents.held_are)
      (⊎_elim
      (λ e. listed_left (value_held v (kind_size K)) params blocks
      (params_held x.code (promise_of x.function) is_value is_slot v crosses K (kept_kind k.ty typed.ty)
      x.function.params e))
      (λ e. listed_right (value_held v (kind_size K)) params blocks
      (blocks_held x.code (promise_of x.function) is_value is_slot v crosses K (kept_kind k.ty typed.ty)
      x.function.blocks no_alloca e))
      (either x.code (promise_of x.function) is_value is_slot v crosses K (kept_kind k.ty typed.ty)
      (first_in param_kind x.function.params v) (first_in block_kind x.function.blocks v) own_kind))

  pub held_as_value : IsHeldAsValue x v k
  held_as_value =
      let z = listed_placed x is position rules (value_held v (kind_size K)) is_held in
      record {
        position = z.position;
        told = z.told;
        there = z.there ∙ ap (λ (n : ℕ). Some (value_held v n)) (sym bytes_are);
      }
