-- Operands that are loaded from their cells: what is loaded may be put in, and stands in the place of the operand.
use Rattle.std.proofs.Common.{◌≡◌, inl, ℕ, ◌≤◌, true, List, [], ◌∷◌, ◌++◌, refl, sym, ◌∙◌, subst, arith}
use Rattle.std.specs.Prelude.{Option, Some, None, slice_get}
use Rattle.pass_edges_proof.proofs.rule_laws.rules.counted.Lists.{AreAmong, among_behind, row_joined}
use Rattle.pass_edges_proof.proofs.rule_laws.rules.counted.Puts.{ArePut, known_grows}
use Rattle.pass_fetch_proof.proofs.cells.rules.Single.{IsSound, IsTold, cell_kind, load_put, own_kind}
use Rattle.pass_edges_proof.proofs.rule_laws.rules.counted.Types.{is_cell_type}
use Rattle.pass_edges_proof.proofs.ir_laws.facts.Members.{each_left, each_right, each_joined}
use Rattle.pass_edges_proof.proofs.ir_laws.paths.source_rules.Locals.{listed_left, listed_right}
use Rattle.pass_edges_proof.proofs.rule_laws.rules.source_rules.Locals.{made_by}
use Rattle.pass_edges_proof.proofs.ir_laws.facts.Lists.{row_of}
use Rattle.pass_edges_proof.specs.flow_solver.Paths.{IsListed}
use Rattle.pass_edges_proof.specs.ir_parts.Contents.{arg_operands, instr_operands}
use Rattle.ir_model.specs.declared.instr.Case.{Case}
use Rattle.ir_model.specs.declared.instr.Instr.{Instr}
use Rattle.ir_model.specs.declared.instr.Terminator.{Terminator}
use Rattle.ir_model.specs.declared.module.Function.{Function}
use Rattle.ir_model.specs.declared.module.Module.{Module}
use Rattle.ir_model.specs.declared.operand.Arg.{Arg}
use Rattle.ir_model.specs.declared.operand.Callee.{Callee}
use Rattle.ir_model.specs.declared.operand.Operand.{Operand}
use Rattle.ir_model.specs.Ty.{Ty}
use Rattle.pass_edges_proof.specs.run_laws.changed.Changed.{Each}
use Rattle.pass_edges_proof.specs.pass_fetch.Fetching.{callee_by, fetch_at, fetch_of, fetched_arg, fetched_args, fetched_callee, fetched_operand, fetches_by, fetches_of, fetches_of_all, next_after, next_after_all, next_by, operand_by}
use Rattle.pass_edges_proof.specs.pass_fetch.Instrs.{fetched_term, term_operands, with_fetched}
use Rattle.pass_edges_proof.specs.pass_fetch.declared.fetch.Fetch.{Fetch}
use Rattle.pass_edges_proof.specs.pass_cells.Moves.{load_from}
use Rattle.pass_edges_proof.specs.rule_values.Kinds.{kind_of, value_kind}
use Rattle.pass_edges_proof.specs.ir_laws.facts.woven_rules.Pairs.{Empty, Pair, Pairwise}
use Rattle.pass_edges_proof.specs.rule_laws.rules.woven_rules.Parts.{Alloca, Binary, Call, CalleeStays, Cast, Direct, Gep, Icmp, Indirect, InstrStays, Load, Select, Store}
use Rattle.pass_edges_proof.specs.ir_laws.facts.woven_rules.Parts.{ArgStays, Branch, Jump, Return, ReturnVoid, Switch, TermStays, Unreachable}
use Rattle.pass_edges_proof.specs.rule_laws.rules.woven_rules.Weaving.{Fetched, IsInPlace, IsKnown, Same, Weaving}

-- a load from a cell into a new name
pub data IsFetch (w : Weaving) : Instr → Type 0 where
  FromCell : (n : ℕ) (t : Ty) (c : ℕ) → is_cell_type t ≡ true → IsListed c w.fronts → w.first ≤ n → IsFetch w (load_from n t c)

-- a value isn't fetched, or it is loaded from a cell of its type
pub data IsFetchOf (w : Weaving) (f : Function) (v : ℕ) : Option Fetch → Type 0 where
  NotFetched : IsFetchOf w f v None
  Loaded : (t : Ty) (c : ℕ) → is_cell_type t ≡ true → IsListed c w.fronts → value_kind f v ≡ Some (kind_of t) → IsFetchOf w f v (Some (Fetch.Load t c))

-- so does a table say of each name
abbrev pub AreFetches : Weaving → Function → List (Option Fetch) → Type 0
AreFetches w f t = (v : ℕ) → IsFetchOf w f v (fetch_at (slice_get t v))

-- the cells may be used in a block that has made some values
abbrev pub AreAtHand : Weaving → Function → ℕ → List ℕ → Type 0
AreAtHand w f block made = (c : ℕ) → IsListed c w.fronts → IsKnown w f block made (Operand.Local c)

pub still_at_hand : (w : Weaving) (m : Module) (f : Function) (block : ℕ) (made now : List ℕ) → AreAmong made now → AreAtHand w f block made → AreAtHand w f block now
still_at_hand w m f block made now among h c l = known_grows w m f block made now among (Operand.Local c) (h c l)

-- ---- what is fetched may be put in

fetch_put : (w : Weaving) (m : Module) (f : Function) (block : ℕ) (made : List ℕ) (i : Instr) → IsSound w f → AreAtHand w f block made → IsFetch w i → IsTold w i → ArePut w m f block made (i ∷ [])
fetch_put w m f block made _ ok hand (FromCell n t c h l low) told = (load_put w m f block made n t c h (hand c l) (cell_kind w f ok c l) low told, tt)

pub fetches_put : (w : Weaving) (m : Module) (f : Function) (block : ℕ) (made : List ℕ) (is : List Instr) → IsSound w f → AreAtHand w f block made → Each (IsFetch w) is → Each (IsTold w) is → ArePut w m f block made is
fetches_put w m f block made [] ok hand h told = tt
fetches_put w m f block made (i ∷ is) ok hand h told = (
  (fetch_put w m f block made i ok hand h.0 told.0).0,
  fetches_put w m f block (made_by i ++ made) is ok (still_at_hand w m f block made (made_by i ++ made) (among_behind (made_by i) made) hand) h.1 told.1,
)

module _ (w : Weaving) (f : Function) (ok : IsSound w f) (t : List (Option Fetch)) (fetches : AreFetches w f t) where
  -- ---- operands

  next_low : (n : ℕ) (o : Option Fetch) → w.first ≤ n → w.first ≤ next_by n o
  next_low n None low = low
  next_low n (Some x) low = omega (arith, low)

  pub operand_low : (n : ℕ) (x : Operand) → w.first ≤ n → w.first ≤ next_after t n x
  operand_low n x low = next_low n (fetch_of t x) low

  pub operands_low : (n : ℕ) (xs : List Operand) → w.first ≤ n → w.first ≤ next_after_all t n xs
  operands_low n [] low = low
  operands_low n (x ∷ xs) low = operands_low (next_after t n x) xs (operand_low n x low)

  one_fetch : (n v : ℕ) (o : Option Fetch) → IsFetchOf w f v o → w.first ≤ n → Each (IsFetch w) (fetches_by n o)
  one_fetch n v _ NotFetched low = tt
  one_fetch n v _ (Loaded ty c h l kind) low = (FromCell n ty c h l low, tt)

  pub operand_fetch : (n : ℕ) (x : Operand) → w.first ≤ n → Each (IsFetch w) (fetches_of t n x)
  operand_fetch n (Operand.Local v) low = one_fetch n v (fetch_at (slice_get t v)) (fetches v) low
  operand_fetch n _ low = tt

  pub all_fetches : (n : ℕ) (xs : List Operand) → w.first ≤ n → Each (IsFetch w) (fetches_of_all t n xs)
  all_fetches n [] low = tt
  all_fetches n (x ∷ xs) low =
      each_joined (IsFetch w) (fetches_of t n x) (fetches_of_all t (next_after t n x) xs) (operand_fetch n x low) (all_fetches (next_after t n x) xs (operand_low n x low))

  pub local_in_place : (made : List ℕ) (n v : ℕ) (o : Option Fetch) → IsFetchOf w f v o → AreAmong (row_of made_by (fetches_by n o)) made → Each (IsTold w) (fetches_by n o) → w.first ≤ n → IsInPlace w f made (Operand.Local v) (operand_by n o (Operand.Local v))
  local_in_place made n v _ NotFetched among told low = Same (Operand.Local v) (ok.goes v)
  local_in_place made n v _ (Loaded ty c h l kind) among told low =
      let new = told.0 n refl low in
      Fetched v n low (among n (inl refl)) (sym new.kind ∙ own_kind w f ok n (kind_of ty) ∙ sym kind)

  pub operand_in_place : (made : List ℕ) (n : ℕ) (x : Operand) → AreAmong (row_of made_by (fetches_of t n x)) made → Each (IsTold w) (fetches_of t n x) → w.first ≤ n → IsInPlace w f made x (fetched_operand t n x)
  operand_in_place made n (Operand.Local v) among told low = local_in_place made n v (fetch_at (slice_get t v)) (fetches v) among told low
  operand_in_place made n x among told low = Same x refl

  -- ---- operands in order

  abbrev pub AreInPlace : List ℕ → ℕ → List Operand → Type 0
  AreInPlace made n [] = Unit {0}
  AreInPlace made n (x ∷ xs) = IsInPlace w f made x (fetched_operand t n x) × AreInPlace made (next_after t n x) xs

  pub all_in_place : (made : List ℕ) (n : ℕ) (xs : List Operand) → AreAmong (row_of made_by (fetches_of_all t n xs)) made → Each (IsTold w) (fetches_of_all t n xs) → w.first ≤ n → AreInPlace made n xs
  all_in_place made n [] among told low = tt
  all_in_place made n (x ∷ xs) among told low =
      let here : List Instr = fetches_of t n x in
      let rest : List Instr = fetches_of_all t (next_after t n x) xs in
      let all : AreAmong (row_of made_by here ++ row_of made_by rest) made = subst (λ (ns : List ℕ). AreAmong ns made) (row_joined made_by here rest) among in (
        operand_in_place made n x (λ k l. all k (listed_left k (row_of made_by here) (row_of made_by rest) l)) (each_left (IsTold w) here rest told) low,
        all_in_place made (next_after t n x) xs (λ k l. all k (listed_right k (row_of made_by here) (row_of made_by rest) l)) (each_right (IsTold w) here rest told) (operand_low n x low),
      )

  -- ---- instructions and terminators

  module _ (made : List ℕ) where
    abbrev Stands : Operand → Operand → Type 0
    Stands = IsInPlace w f made

    arg_stays : (n : ℕ) (a : Arg) → Stands a.value (fetched_operand t n a.value) → ArgStays Stands a (fetched_arg t n a)
    arg_stays n a h = record { ty = refl; value = h }

    pub args_stay : (n : ℕ) (args : List Arg) → AreInPlace made n (arg_operands args) → Pairwise (ArgStays Stands) args (fetched_args t n args)
    args_stay n [] h = Empty
    args_stay n (a ∷ args) h = Pair a (fetched_arg t n a) args (fetched_args t (next_after t n a.value) args) (arg_stays n a h.0) (args_stay (next_after t n a.value) args h.1)

    callee_stays : (n v : ℕ) (o : Option Fetch) → Stands (Operand.Local v) (operand_by n o (Operand.Local v)) → CalleeStays Stands (Callee.Local v) (callee_by n o (Callee.Local v))
    callee_stays n v None h = Indirect v v h
    callee_stays n v (Some x) h = Indirect v n h

    pub instr_stays : (n : ℕ) (i : Instr) → AreInPlace made n (instr_operands i) → InstrStays Stands i (with_fetched t n i)
    instr_stays n (Instr.Binary r op flags ty a b) h = Binary r op flags ty a b (fetched_operand t n a) (fetched_operand t (next_after t n a) b) h.0 h.1.0
    instr_stays n (Instr.Icmp r pred ty a b) h = Icmp r pred ty a b (fetched_operand t n a) (fetched_operand t (next_after t n a) b) h.0 h.1.0
    instr_stays n (Instr.Select r c a b) h =
        let second : ℕ = next_after t n c in
        let third : ℕ = next_after t second a.value in
        Select r c (fetched_operand t n c) a b (fetched_arg t second a) (fetched_arg t third b) h.0 (arg_stays second a h.1.0) (arg_stays third b h.1.1.0)
    instr_stays n (Instr.Cast r op nneg a to) h = Cast r op nneg a (fetched_arg t n a) to (arg_stays n a h.0)
    instr_stays n (Instr.Alloca r ty align) h = Alloca r ty align
    instr_stays n (Instr.Load r ty x align) h = Load r ty x (fetched_operand t n x) align h.0
    instr_stays n (Instr.Store a x align) h = Store a (fetched_arg t n a) x (fetched_operand t (next_after t n a.value) x) align (arg_stays n a h.0) h.1.0
    instr_stays n (Instr.Gep r inbounds ty x args) h =
        Gep r inbounds ty x (fetched_operand t n x) args (fetched_args t (next_after t n x) args) h.0 (args_stay (next_after t n x) args h.1)
    instr_stays n (Instr.Call r must_tail ty (Callee.Named c) args) h = Call r must_tail ty (Callee.Named c) (Callee.Named c) args (fetched_args t n args) (Direct (Callee.Named c) refl) (args_stay n args h)
    instr_stays n (Instr.Call r must_tail ty (Callee.Allocator c) args) h = Call r must_tail ty (Callee.Allocator c) (Callee.Allocator c) args (fetched_args t n args) (Direct (Callee.Allocator c) refl) (args_stay n args h)
    instr_stays n (Instr.Call r must_tail ty (Callee.Intrinsic c) args) h = Call r must_tail ty (Callee.Intrinsic c) (Callee.Intrinsic c) args (fetched_args t n args) (Direct (Callee.Intrinsic c) refl) (args_stay n args h)
    instr_stays n (Instr.Call r must_tail ty (Callee.Local v) args) h =
        Call r must_tail ty (Callee.Local v) (fetched_callee t n (Callee.Local v)) args (fetched_args t (next_after t n (Operand.Local v)) args) (callee_stays n v (fetch_at (slice_get t v)) h.0) (args_stay (next_after t n (Operand.Local v)) args h.1)

    operand_stays : (x : Operand) → Stands x x
    operand_stays (Operand.Local v) = Same (Operand.Local v) (ok.goes v)
    operand_stays x = Same x refl

    values_stay : (cases : List Case) → Each (λ (c : Case). Stands c.arg.value c.arg.value) cases
    values_stay [] = tt
    values_stay (c ∷ cases) = (operand_stays c.arg.value, values_stay cases)

    pub term_stays : (n : ℕ) (x : Terminator) → AreInPlace made n (term_operands x) → TermStays Stands x (fetched_term t n x)
    term_stays n (Terminator.Jump label) h = Jump label
    term_stays n (Terminator.Branch c a b) h = Branch c (fetched_operand t n c) a b h.0
    term_stays n (Terminator.Switch a default cases) h = Switch a (fetched_arg t n a) default cases (arg_stays n a h.0) (values_stay cases)
    term_stays n (Terminator.Ret None) h = ReturnVoid
    term_stays n (Terminator.Ret (Some a)) h = Return a (fetched_arg t n a) (arg_stays n a h.0)
    term_stays n Terminator.Unreachable h = Unreachable
