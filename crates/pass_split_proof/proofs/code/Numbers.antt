-- The numbers of suspends: where they stand in the text, and the saves that name them.
use Rattle.std.proofs.Common.{◌≡◌, ◌<◌, inl, inr, ℕ, zero, suc, ◌+◌, Bool, true, List, [], ◌∷◌, ◌++◌, length, refl, sym, ap, ◌∙◌, subst, arith}
use Rattle.std.proofs.lemmas.List.{length-replicate}
use Rattle.std.specs.Prelude.{None, Option, Some, flat_map, option_and_then, option_to_list, replicate, slice_get, ◌||◌}
use Rattle.pass_proofs.specs.flow_solver.Paths.{IsListed}
use Rattle.pass_proofs.specs.frame_layout.declared.layout.Layout.{Layout}
use Rattle.pass_proofs.proofs.ir_laws.facts.Lists.{phi_names, row_of, set_here, set_length, set_other}
use Rattle.pass_proofs.proofs.ir_laws.facts.Truth.{and_first, and_second, equal_numbers}
use Rattle.pass_proofs.proofs.ir_laws.paths.edges.Lists.{listed_at}
use Rattle.pass_proofs.proofs.ir_laws.paths.path_rules.Where.{has_where}
use Rattle.pass_proofs.proofs.ir_laws.paths.renamed.Uses.{stands_in}
use Rattle.pass_proofs.proofs.ir_laws.paths.source_rules.Locals.{in_row, listed_left, listed_right}
use Rattle.pass_proofs.proofs.ir_laws.paths.uses.Paths.{place_of}
use Rattle.pass_proofs.proofs.rule_laws.rules.source_rules.Locals.{block_names, made_by}
use Rattle.pass_proofs.proofs.rule_laws.rules.sources.Places.{instr_there}
use Rattle.pass_proofs.proofs.rule_laws.rules.woven_rules.Once.{names_below}
use Rattle.pass_proofs.specs.ir_laws.facts.renamed.Regular.{passes}
use Rattle.pass_proofs.specs.rule_laws.frames.replaced.Splittable.{token_taken}
use Rattle.pass_proofs.specs.ir_laws.paths.woven_rules.Pairs.{AreDifferent}
use Rattle.pass_proofs.specs.ir_model.Names.{is_local}
use Rattle.pass_proofs.specs.ir_model.Ty.{Ty}
use Rattle.pass_proofs.specs.ir_model.declared.instr.Instr.{Instr}
use Rattle.pass_proofs.specs.ir_model.declared.module.Block.{Block}
use Rattle.pass_proofs.specs.ir_model.declared.module.Function.{Function}
use Rattle.pass_proofs.specs.ir_model.declared.module.Module.{Module}
use Rattle.pass_proofs.specs.ir_model.declared.operand.Arg.{Arg}
use Rattle.pass_proofs.specs.ir_model.declared.operand.Callee.{Callee}
use Rattle.pass_proofs.specs.ir_model.declared.operand.Intrinsic.{Intrinsic}
use Rattle.pass_proofs.specs.ir_model.declared.operand.Operand.{Operand}
use Rattle.pass_proofs.proofs.ir_paths.Search.{same_point-itself}
use Rattle.pass_proofs.specs.ir_paths.Paths.{has_point, same_point}
use Rattle.pass_proofs.specs.ir_paths.Windows.{call_operand, call_result, instr_at, is_suspend_of, label_at, label_of_term, operand_at, points_where, suspend_of}
use Rattle.pass_proofs.specs.ir_paths.declared.point.Point.{Point}
use Rattle.pass_proofs.specs.pass_intrinsics.Lowered.{number_at, number_of_save}
use Rattle.pass_proofs.specs.pass_intrinsics.Shapes.{is_final as is_final_of, save_of, shape_of, suspends_of, token_of, with_save, with_saves, with_suspend, with_suspends_by, with_suspends_in}
use Rattle.pass_proofs.specs.pass_intrinsics.declared.shape.SuspendPoint.{SuspendPoint}
use Rattle.pass_split_proof.specs.code.Numbers.{IsNumbered}
use Rattle.pass_proofs.specs.split.rules.Splittable.{IsSplittable}
use Rattle.pass_proofs.specs.rule_shape.Suspends.{is_suspend}
use Rattle.pass_proofs.specs.rule_uses.Undefined.{params_of}
use Rattle.pass_proofs.specs.run_source_tables.Given.{is_final_call, is_true}
use Rattle.pass_proofs.specs.run_step.Step.{AtInstr, fetch, label_of}

-- ---- suspends in the text

abbrev pub suspend_call : Option ℕ → Bool → Option Ty → List Arg → Instr
suspend_call r must_tail ty args = Instr.Call r must_tail ty (Callee.Intrinsic Intrinsic.CoroSuspend) args

pub record IsCall (i : Instr) : Type 0 where
  pub result : Option ℕ
  pub must_tail : Bool
  pub ty : Option Ty
  pub args : List Arg
  pub is : i ≡ suspend_call result must_tail ty args

pub is_call : (i : Instr) → is_suspend i ≡ true → IsCall i
is_call (Instr.Call r must_tail ty (Callee.Intrinsic Intrinsic.CoroSuspend) args) e
    = record { result = r; must_tail = must_tail; ty = ty; args = args; is = refl }
is_call _ e = absurd (cc)

-- what is said of a suspend of a block
abbrev pub point_of : Block → List Arg → SuspendPoint
point_of b args = record {
  save = save_of args;
  is_final = is_final_of args;
  block = b.label;
  resume = label_of_term 0 b.term;
  destroy = label_of_term 1 b.term;
}

module _ (p : SuspendPoint) where
  kept_one : (all : List SuspendPoint) (b : Block) (i : Instr) → IsListed p all → IsListed p (with_suspend all b i)
  kept_one all b (Instr.Call r must_tail ty (Callee.Intrinsic Intrinsic.CoroSuspend) args) l = listed_left p all _ l
  kept_one all b _ l = l

  kept_in : (all : List SuspendPoint) (b : Block) (is : List Instr) → IsListed p all
      → IsListed p (with_suspends_in all b is)
  kept_in all b [] l = l
  kept_in all b (i ∷ is) l = kept_in (with_suspend all b i) b is (kept_one all b i l)

  kept_by : (all : List SuspendPoint) (bs : List Block) → IsListed p all → IsListed p (with_suspends_by all bs)
  kept_by all [] l = l
  kept_by all (b ∷ bs) l = kept_by (with_suspends_in all b b.instrs) bs (kept_in all b b.instrs l)

module _ (b : Block) (i : Instr) (c : IsCall i) where
  one_there : (all : List SuspendPoint) → IsListed (point_of b c.args) (with_suspend all b i)
  one_there all = subst (λ (x : Instr). IsListed (point_of b c.args) (with_suspend all b x)) (sym c.is)
      (listed_right (point_of b c.args) all (point_of b c.args ∷ []) (inl refl))

  there_in : (all : List SuspendPoint) (is : List Instr) → IsListed i is
      → IsListed (point_of b c.args) (with_suspends_in all b is)
  there_in all [] l = absurd l
  there_in all (x ∷ is) (inl e)
      = subst (λ (y : Instr). IsListed (point_of b c.args) (with_suspends_in (with_suspend all b y) b is)) e
      (kept_in (point_of b c.args) (with_suspend all b i) b is (one_there all))
  there_in all (x ∷ is) (inr l) = there_in (with_suspend all b x) is l

  pub there_by : (all : List SuspendPoint) (bs : List Block) → IsListed b bs → IsListed i b.instrs
      → IsListed (point_of b c.args) (with_suspends_by all bs)
  there_by all [] l m = absurd l
  there_by all (d ∷ bs) (inl e) m =
      kept_by (point_of b c.args) (with_suspends_in all d d.instrs) bs
      (subst (λ (x : Block). IsListed (point_of b c.args) (with_suspends_in all x x.instrs)) e
      (there_in all b.instrs m))
  there_by all (d ∷ bs) (inr l) m = there_by (with_suspends_in all d d.instrs) bs l m

same_final : (args : List Arg) → is_final_of args ≡ is_true (operand_at args 1)
same_final [] = refl
same_final (a ∷ []) = refl
same_final (a ∷ b ∷ args) = refl

-- a suspend of the function at a point, with its number, and its token
record IsSuspendAt (f : Function) (p : Point) (i : Instr) : Type 0 where
  number : ℕ
  numbered : IsNumbered f p number
  save : (r : ℕ) → is_local r (call_operand i 0) ≡ true → numbered.suspend.save ≡ Some r

-- the save of a suspend is its first operand
first_token : (r : ℕ) (args : List Arg) → is_local r (operand_at args 0) ≡ true → save_of args ≡ Some r
first_token r [] e = absurd (cc)
first_token r (a ∷ args) e = on a.value e
  where
    on : (x : Operand) → is_local r x ≡ true → token_of x ≡ Some r
    on (Operand.Local n) d = ap (λ (v : ℕ). Some v) (sym (equal_numbers r n d))
    on _ d = absurd (cc)

suspend_at : (f : Function) (p : Point) (i : Instr) → instr_at f p ≡ Some i → is_suspend i ≡ true → IsSuspendAt f p i
suspend_at f p i there e =
    let y = stands_in f p i there in
    let c = is_call i e in
    let l : IsListed (point_of y.block c.args) (suspends_of f) = there_by y.block i c [] f.blocks
    (listed_at f.blocks p.block y.block y.got) (listed_at y.block.instrs p.at i y.stands) in
    let q = place_of (suspends_of f) (point_of y.block c.args) l in
    record {
      number = q.0;
      numbered = record {
        suspend = point_of y.block c.args;
        stands = q.1;
        block = ap label_of (sym y.got);
        resume = ap (label_at 0) (sym y.got);
        destroy = ap (label_at 1) (sym y.got);
        final = same_final c.args ∙ ap is_final_call (sym (there ∙ ap (λ (x : Instr). Some x) c.is));
      };
      save = λ r local. first_token r c.args (ap (λ (x : Instr). is_local r (call_operand x 0)) (sym c.is) ∙ local);
    }

pub has_number : (f : Function) (block at : ℕ) (i : Instr) → fetch f block at ≡ AtInstr i → is_suspend i ≡ true
    → (j : ℕ) × IsNumbered f (record { block = block; at = at }) j
has_number f block at i here e = let x = suspend_at f (record { block = block; at = at }) i
    (instr_there f block at i here) e in (x.number, x.numbered)

-- ---- saves

none_taken : (table : List (Option ℕ)) (j : ℕ) (ps : List SuspendPoint) (r : ℕ) → (IsListed r (flat_map token_taken ps)
    → ⊥) → slice_get (with_saves table j ps) r ≡ slice_get table r
none_taken table j [] r none = refl
none_taken table j (p ∷ ps) r none = none_taken (with_save table j p.save) (j + 1) ps r
    (λ l. none (listed_right r (token_taken p) (flat_map token_taken ps) l))
    ∙ on p.save (λ l. none (listed_left r (token_taken p) (flat_map token_taken ps) l))
  where
    on : (o : Option ℕ) → (IsListed r (option_to_list o) → ⊥) → slice_get (with_save table j o) r ≡ slice_get table r
    on None h = refl
    on (Some t) h = set_other table t r (Some j) (λ e. h (inl (sym e)))

-- the table has for a token the number of the suspend that takes it
taken_number : (table : List (Option ℕ)) (j : ℕ) (ps : List SuspendPoint) (at : ℕ) (p : SuspendPoint) (r : ℕ)
    → AreDifferent (flat_map token_taken ps) → slice_get ps at ≡ Some p → p.save ≡ Some r → r < length table
    → slice_get (with_saves table j ps) r ≡ Some (Some (j + at))
taken_number table j [] at p r h e takes low = absurd (cc)
taken_number table j (q ∷ ps) zero p r h e takes low =
    let same : q ≡ p = cc in
    let token : q.save ≡ Some r = ap (λ (x : SuspendPoint). x.save) same ∙ takes in
    let none : j + 0 ≡ j = omega arith in
    let apart : AreDifferent (r ∷ flat_map token_taken ps) = subst (λ (o : Option ℕ). AreDifferent
    (option_to_list o ++ flat_map token_taken ps)) token h in
    ap (λ (o : Option ℕ). slice_get (with_saves (with_save table j o) (j + 1) ps) r) token
    ∙ none_taken (with_save table j (Some r)) (j + 1) ps r apart.0
    ∙ set_here table r (Some j) low
    ∙ ap (λ (n : ℕ). Some (Some n)) (sym none)
taken_number table j (q ∷ ps) (suc at) p r h e takes low =
    let same : j + 1 + at ≡ j + suc at = omega arith in
    taken_number (with_save table j q.save) (j + 1) ps at p r (rest q.save h) e takes (long q.save)
    ∙ ap (λ (n : ℕ). Some (Some n)) same
  where
    rest : (o : Option ℕ) → AreDifferent (option_to_list o ++ flat_map token_taken ps)
        → AreDifferent (flat_map token_taken ps)
    rest None d = d
    rest (Some t) d = d.1

    long : (o : Option ℕ) → r < length (with_save table j o)
    long None = low
    long (Some t) = subst (λ (n : ℕ). r < n) (sym (set_length table t (Some j))) low

-- ---- the suspend of a save

first_has : (ps : List Point) (q : Point) → slice_get ps 0 ≡ Some q → has_point ps q ≡ true
first_has [] q e = absurd (cc)
first_has (p ∷ ps) q e = let same : p ≡ q = cc in ap (λ (b : Bool). b || has_point ps q) (ap (same_point q) same
    ∙ same_point-itself q)

result_made : (i : Instr) (r : ℕ) → call_result i ≡ Some r → IsListed r (made_by i)
result_made (Instr.Call result must_tail ty callee args) r e = subst (λ (o : Option ℕ). IsListed r (option_to_list o))
    (sym e) (inl refl)
result_made _ r e = absurd (cc)

module _ (m : Module) (k : ℕ) (f : Function) (begin : ℕ) (x : IsSplittable m k f begin) (layout : Layout) (r : ℕ) where
  low_result : (p : Point) (i : Instr) → instr_at f p ≡ Some i → call_result i ≡ Some r → r < length f.names
  low_result p i there e =
      let y = stands_in f p i there in
      let made : IsListed r (row_of made_by y.block.instrs) = in_row made_by y.block.instrs p.at r i y.stands
      (result_made i r e) in
      let named : IsListed r (block_names y.block) = inr (listed_right r (phi_names y.block.phis)
      (row_of made_by y.block.instrs) made) in
      names_below k f x.rules.tabled r (listed_right r (params_of f) (row_of block_names f.blocks)
      (in_row block_names f.blocks p.block r y.block y.got named))

  number_there : (at : ℕ) (p : SuspendPoint) → slice_get (suspends_of f) at ≡ Some p → p.save ≡ Some r
      → r < length f.names → number_of_save (shape_of f layout) (Some r) ≡ Some at
  number_there at p stands takes low =
      let table : List (Option ℕ) = replicate (length f.names) None in
      let long : length table ≡ length f.names = length-replicate (length f.names) None in
      let same : 0 + at ≡ at = omega arith in
      ap number_at (taken_number table 0 (suspends_of f) at p r x.tokens stands takes
      (subst (λ (n : ℕ). r < n) (sym long) low)) ∙ ap (λ (n : ℕ). Some n) same

  of_suspend : (q : Point) (o : Option Instr) → instr_at f q ≡ o → passes (is_suspend_of (Some r)) o ≡ true
      → r < length f.names → (j : ℕ) × ((number_of_save (shape_of f layout) (Some r) ≡ Some j) × IsNumbered f q j)
  of_suspend q None there e low = absurd (cc)
  of_suspend q (Some i) there e low =
      let y = suspend_at f q i there (and_first (is_suspend i) (is_local r (call_operand i 0)) e) in
      let token = y.save r (and_second (is_suspend i) (is_local r (call_operand i 0)) e) in
      (y.number, (number_there y.number y.numbered.suspend y.numbered.stands token low, y.numbered))

  pub by_save : (block at : ℕ) (i : Instr) (q : Point) → fetch f block at ≡ AtInstr i → call_result i ≡ Some r
      → suspend_of f (record { block = block; at = at }) ≡ Some q → (j : ℕ)
      × ((number_of_save (shape_of f layout) (Some r) ≡ Some j) × IsNumbered f q j)
  by_save block at i q here e found =
      let p : Point = record { block = block; at = at } in
      let there : instr_at f p ≡ Some i = instr_there f block at i here in
      let token : option_and_then call_result (instr_at f p) ≡ Some r = ap (option_and_then call_result) there ∙ e in
      let first : slice_get (points_where (is_suspend_of (Some r)) f) 0 ≡ Some q = ap (λ (o : Option ℕ). slice_get
      (points_where (is_suspend_of o) f) 0) (sym token) ∙ found in
      of_suspend q (instr_at f q) refl (sym (has_where (is_suspend_of (Some r)) f q)
      ∙ first_has (points_where (is_suspend_of (Some r)) f) q first) (low_result p i there e)
