-- The suspends of a function are those of its points in their order, and the table of saves has their numbers.
use Rattle.std.proofs.Common.{append-nil, append_assoc, ◌≡◌, inl, ℕ, zero, suc, ◌+◌, ◌<◌, Bool, true, List, [], ◌∷◌, ◌++◌, length, map, Option, Some, None, refl, sym, ap, ◌∙◌, subst, arith}
use Rattle.std.specs.Prelude.{flat_map, option_map, option_to_list, slice_get}
use Rattle.std.proofs.lemmas.List.{map-append}
use Rattle.std.proofs.lemmas.Option.{slice_get-map}
use Rattle.compiler.specs.flow_solver.Paths.{IsListed}
use Rattle.compiler.proofs.ir_laws.facts.Lists.{set_here, set_length, set_other}
use Rattle.compiler.proofs.ir_laws.paths.source_rules.Locals.{listed_left, listed_right}
use Rattle.compiler.specs.ir_laws.paths.woven_rules.Pairs.{AreDifferent}
use Rattle.compiler.specs.ir_model.declared.instr.Instr.{Instr}
use Rattle.compiler.specs.ir_model.declared.module.Block.{Block}
use Rattle.compiler.specs.ir_model.declared.module.Function.{Function}
use Rattle.compiler.proofs.ir_laws.facts.Truth.{equal_numbers}
use Rattle.compiler.specs.ir_model.Names.{is_local}
use Rattle.compiler.specs.ir_model.Ty.{Ty}
use Rattle.compiler.specs.ir_model.declared.operand.Arg.{Arg}
use Rattle.compiler.specs.ir_model.declared.operand.Operand.{Operand}
use Rattle.compiler.specs.ir_model.declared.operand.Callee.{Callee}
use Rattle.compiler.specs.ir_model.declared.operand.Intrinsic.{Intrinsic}
use Rattle.compiler.specs.ir_paths.Windows.{instr_at, instr_in, is_call_of, operand_at, points_from, points_in, points_where}
use Rattle.compiler.specs.ir_paths.declared.point.Point.{Point}
use Rattle.compiler.specs.pass_intrinsics.Shapes.{save_of, token_of, suspends_of, with_save, with_saves, with_suspend, with_suspends_by, with_suspends_in}
use Rattle.compiler.specs.pass_intrinsics.declared.shape.SuspendPoint.{SuspendPoint}
use Rattle.compiler.specs.rule_laws.frames.replaced.Splittable.{token_taken}

-- ---- tokens, in their order

row : Instr → List (Option ℕ)
row (Instr.Call r must_tail ty (Callee.Intrinsic Intrinsic.CoroSuspend) args) = save_of args ∷ []
row _ = []

rows : List Instr → List (Option ℕ)
rows [] = []
rows (i ∷ is) = row i ++ rows is

block_rows : List Block → List (Option ℕ)
block_rows [] = []
block_rows (b ∷ bs) = rows b.instrs ++ block_rows bs

abbrev saves : List SuspendPoint → List (Option ℕ)
saves ss = map (λ (s : SuspendPoint). s.save) ss

one_row : (all : List SuspendPoint) (b : Block) (i : Instr) → saves (with_suspend all b i) ≡ saves all ++ row i
unfolding row
one_row all b (Instr.Call r must_tail ty (Callee.Intrinsic Intrinsic.CoroSuspend) args) =
    map-append (λ (s : SuspendPoint). s.save) all _
one_row all b _ = sym (append-nil (saves all))

in_row : (all : List SuspendPoint) (b : Block) (is : List Instr)
    → saves (with_suspends_in all b is) ≡ saves all ++ rows is
unfolding rows
in_row all b [] = sym (append-nil (saves all))
in_row all b (i ∷ is) =
    in_row (with_suspend all b i) b is
    ∙ ap (λ (ts : List (Option ℕ)). ts ++ rows is) (one_row all b i)
    ∙ append_assoc (saves all) (row i) (rows is)

by_row : (all : List SuspendPoint) (bs : List Block)
    → saves (with_suspends_by all bs) ≡ saves all ++ block_rows bs
unfolding block_rows
by_row all [] = sym (append-nil (saves all))
by_row all (b ∷ bs) =
    by_row (with_suspends_in all b b.instrs) bs
    ∙ ap (λ (ts : List (Option ℕ)). ts ++ block_rows bs) (in_row all b b.instrs)
    ∙ append_assoc (saves all) (rows b.instrs) (block_rows bs)

-- ---- points

first_of : List (Option ℕ) → Option ℕ
first_of [] = None
first_of (t ∷ ts) = t

pub token_in : Option Instr → Option ℕ
token_in None = None
token_in (Some i) = first_of (row i)

-- it is the first operand of a suspend
pub token_told : (r : Option ℕ) (must_tail : Bool) (ty : Option Ty) (args : List Arg) (v : ℕ)
    → is_local v (operand_at args 0) ≡ true
    → token_in (Some (Instr.Call r must_tail ty (Callee.Intrinsic Intrinsic.CoroSuspend) args)) ≡ Some v
unfolding token_in first_of row
token_told r must_tail ty [] v e = absurd (cc)
token_told r must_tail ty (a ∷ args) v e = on a.value e
  where
    on : (o : Operand) → is_local v o ≡ true → token_of o ≡ Some v
    on (Operand.Local u) d = ap Some (sym (equal_numbers v u d))
    on _ d = absurd (cc)

abbrev is_suspend : Instr → Bool
is_suspend i = is_call_of Intrinsic.CoroSuspend i

module _ (f : Function) where
  abbrev AreTold : List Point → List (Option ℕ) → Type 0
  AreTold [] [] = Unit {0}
  AreTold [] (t ∷ ts) = ⊥
  AreTold (p ∷ ps) [] = ⊥
  AreTold (p ∷ ps) (t ∷ ts) = (token_in (instr_at f p) ≡ t) × AreTold ps ts

  both_told : (ps qs : List Point) (ts us : List (Option ℕ)) → AreTold ps ts → AreTold qs us
      → AreTold (ps ++ qs) (ts ++ us)
  both_told [] qs [] us h k = k
  both_told [] qs (t ∷ ts) us h k = absurd h
  both_told (p ∷ ps) qs [] us h k = absurd h
  both_told (p ∷ ps) qs (t ∷ ts) us h k = (h.0, both_told ps qs ts us h.1 k)

  from_told : (block at : ℕ) (is : List Instr)
      → ((n : ℕ) → instr_at f (record { block = block; at = at + n }) ≡ slice_get is n)
      → AreTold (points_from is_suspend block at is) (rows is)
  unfolding rows row token_in first_of
  from_told block at [] here = tt
  from_told block at (Instr.Call r must_tail ty (Callee.Intrinsic Intrinsic.CoroSuspend) args ∷ is) here =
      let none : at ≡ at + 0 = omega arith in (
        ap token_in (ap (λ (n : ℕ). instr_at f (record { block = block; at = n })) none ∙ here 0),
        from_told block (suc at) is (λ n.
            let next : suc at + n ≡ at + suc n = omega arith in
            ap (λ (q : ℕ). instr_at f (record { block = block; at = q })) next ∙ here (suc n)),
      )
  from_told block at (_ ∷ is) here =
      from_told block (suc at) is (λ n.
      let next : suc at + n ≡ at + suc n = omega arith in
      ap (λ (q : ℕ). instr_at f (record { block = block; at = q })) next ∙ here (suc n))

  in_told : (block : ℕ) (bs : List Block) → ((k : ℕ) → slice_get f.blocks (block + k) ≡ slice_get bs k)
      → AreTold (points_in is_suspend block bs) (block_rows bs)
  unfolding block_rows
  in_told block [] here = tt
  in_told block (b ∷ bs) here =
      both_told (points_from is_suspend block 0 b.instrs) (points_in is_suspend (suc block) bs) (rows b.instrs)
      (block_rows bs)
      (from_told block 0 b.instrs (λ n.
      let none : block ≡ block + 0 = omega arith in
      let same : 0 + n ≡ n = omega arith in
      ap (λ (o : Option Block). instr_in o (0 + n)) (ap (slice_get f.blocks) none ∙ here 0)
      ∙ ap (slice_get b.instrs) same))
      (in_told (suc block) bs (λ k.
      let next : suc block + k ≡ block + suc k = omega arith in
      ap (slice_get f.blocks) next ∙ here (suc k)))

  all_told : AreTold (points_where is_suspend f) (saves (suspends_of f))
  all_told =
      subst (AreTold (points_where is_suspend f)) (sym (by_row [] f.blocks))
      (in_told 0 f.blocks (λ k. let same : 0 + k ≡ k = omega arith in ap (slice_get f.blocks) same))

  told_at : (ps : List Point) (ts : List (Option ℕ)) (n : ℕ) (p : Point) → AreTold ps ts → slice_get ps n ≡ Some p
      → slice_get ts n ≡ Some (token_in (instr_at f p))
  told_at [] ts n p h e = absurd (cc)
  told_at (q ∷ ps) [] n p h e = absurd h
  told_at (q ∷ ps) (t ∷ ts) zero p h e =
      let same : q ≡ p = cc in
      ap Some (sym h.0 ∙ ap (λ (z : Point). token_in (instr_at f z)) same)
  told_at (q ∷ ps) (t ∷ ts) (suc n) p h e = told_at ps ts n p h.1 e

  -- the suspend of a number takes the token of the instruction there
  pub suspend_numbered : (n : ℕ) (p : Point) → slice_get (points_where is_suspend f) n ≡ Some p
      → (s : SuspendPoint) × (slice_get (suspends_of f) n ≡ Some s) × (s.save ≡ token_in (instr_at f p))
  suspend_numbered n p e = on (slice_get (suspends_of f) n) refl
    where
      there : option_map (λ (s : SuspendPoint). s.save) (slice_get (suspends_of f) n) ≡ Some (token_in (instr_at f p))
      there =
          sym (slice_get-map (λ (s : SuspendPoint). s.save) (suspends_of f) n)
          ∙ told_at (points_where is_suspend f) (saves (suspends_of f)) n p all_told e

      on : (o : Option SuspendPoint) → slice_get (suspends_of f) n ≡ o
          → (s : SuspendPoint) × (slice_get (suspends_of f) n ≡ Some s) × (s.save ≡ token_in (instr_at f p))
      on None d =
          let no : None ≡ Some (token_in (instr_at f p)) =
          sym (ap (option_map (λ (s : SuspendPoint). s.save)) d) ∙ there in
          absurd (cc)
      on (Some s) d =
          let both : Some s.save ≡ Some (token_in (instr_at f p)) =
          sym (ap (option_map (λ (s : SuspendPoint). s.save)) d) ∙ there in
          (s, d, same_token s.save (token_in (instr_at f p)) both)
        where
          same_token : (a b : Option ℕ) → ◌≡◌ {A = Option (Option ℕ)} (Some a) (Some b) → a ≡ b
          same_token a b h = cc

-- ---- the table of saves

none_taken : (table : List (Option ℕ)) (j : ℕ) (ps : List SuspendPoint) (r : ℕ)
    → (IsListed r (flat_map token_taken ps) → ⊥) → slice_get (with_saves table j ps) r ≡ slice_get table r
none_taken table j [] r none = refl
none_taken table j (p ∷ ps) r none =
    none_taken (with_save table j p.save) (j + 1) ps r
    (λ l. none (listed_right r (token_taken p) (flat_map token_taken ps) l))
    ∙ on p.save (λ l. none (listed_left r (token_taken p) (flat_map token_taken ps) l))
  where
    on : (o : Option ℕ) → (IsListed r (option_to_list o) → ⊥) → slice_get (with_save table j o) r ≡ slice_get table r
    on None h = refl
    on (Some t) h = set_other table t r (Some j) (λ e. h (inl (sym e)))

pub taken_number : (table : List (Option ℕ)) (j : ℕ) (ps : List SuspendPoint) (at : ℕ) (p : SuspendPoint) (r : ℕ)
    → AreDifferent (flat_map token_taken ps) → slice_get ps at ≡ Some p → p.save ≡ Some r → r < length table
    → slice_get (with_saves table j ps) r ≡ Some (Some (j + at))
taken_number table j [] at p r h e takes low = absurd (cc)
taken_number table j (q ∷ ps) zero p r h e takes low =
    let same : q ≡ p = cc in
    let token : q.save ≡ Some r = ap (λ (x : SuspendPoint). x.save) same ∙ takes in
    let none : j + 0 ≡ j = omega arith in
    let apart : AreDifferent (r ∷ flat_map token_taken ps) =
    subst (λ (o : Option ℕ). AreDifferent (option_to_list o ++ flat_map token_taken ps)) token h in
    ap (λ (o : Option ℕ). slice_get (with_saves (with_save table j o) (j + 1) ps) r) token
    ∙ none_taken (with_save table j (Some r)) (j + 1) ps r apart.0
    ∙ set_here table r (Some j) low
    ∙ ap (λ (n : ℕ). Some (Some n)) (sym none)
taken_number table j (q ∷ ps) (suc at) p r h e takes low =
    let same : j + 1 + at ≡ j + suc at = omega arith in
    taken_number (with_save table j q.save) (j + 1) ps at p r (rest q.save h) e takes (long q.save)
    ∙ ap (λ (n : ℕ). Some (Some n)) same
  where
    rest : (o : Option ℕ) → AreDifferent (option_to_list o ++ flat_map token_taken ps)
        → AreDifferent (flat_map token_taken ps)
    rest None d = d
    rest (Some t) d = d.1

    long : (o : Option ℕ) → r < length (with_save table j o)
    long None = low
    long (Some t) = subst (λ (n : ℕ). r < n) (sym (set_length table t (Some j))) low
