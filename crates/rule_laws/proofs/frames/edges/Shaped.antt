-- What the rules say of a coroutine: its labels, its end, and the suspends of its blocks.
use Rattle.std.proofs.Common.{Bool, List, [], ap, arith, false, inl, inr, length, refl, subst, suc, sym, true, zero, ℕ, ⊎_elim, ◌∙◌, ◌∷◌, ◌≡◌, ◌⊎◌}
use Rattle.std.specs.List.{list_any}
use Rattle.std.specs.Prelude.{None, Option, Some, if◌then◌else◌, map, option_map, pos, slice_get, unwrap_or, ◌&&◌, ◌||◌}
use Rattle.ir_laws.specs.ir_base.declared.outcome.Place.{Place}
use Rattle.rule_shape.specs.OneOfEach.{calls_of, has_no_other_frame, is_first_in_block, is_right_instr}
use Rattle.rule_shape.specs.Places.{is_the}
use Rattle.rule_shape.specs.Suspends.{is_suspend}
use Rattle.rule_shape.specs.Switches.{are_both}
use Rattle.ir_laws.proofs.facts.Truth.{equal_numbers, and_first, and_second}
use Rattle.ir_laws.proofs.paths.source_rules.Locals.{listed_either, listed_left, listed_right}
use Rattle.ir_laws.specs.flow_solver.Paths.{IsListed}
use Rattle.pass_intrinsics.specs.Shapes.{end_label, has_end, is_end, suspends_of, with_suspend, with_suspends_by, with_suspends_in}
use Rattle.pass_intrinsics.specs.declared.shape.SuspendPoint.{SuspendPoint}
use Rattle.ir_laws.specs.ir_model.Names.{first_where}
use Rattle.ir_laws.specs.ir_model.declared.instr.Case.{Case}
use Rattle.ir_laws.specs.ir_model.declared.instr.Instr.{Instr}
use Rattle.ir_laws.specs.ir_model.declared.instr.Phi.{Phi}
use Rattle.ir_laws.specs.ir_model.declared.module.Block.{Block}
use Rattle.ir_laws.specs.ir_model.declared.module.Function.{Function}
use Rattle.ir_laws.specs.ir_model.declared.operand.Callee.{Callee}
use Rattle.ir_laws.specs.ir_model.declared.operand.Intrinsic.{Intrinsic}
use Rattle.ir_laws.specs.ir_model.declared.operand.Operand.{Operand}
use Rattle.ir_laws.specs.ir_paths.Paths.{targets}
use Rattle.ir_laws.specs.ir_paths.Windows.{is_call_of, is_number, label_in, label_of_term}
use Rattle.ir_laws.proofs.facts.Numbers.{label_of}

pub is_there : (o : Option ℕ) (n : ℕ) → is_the o n ≡ true → o ≡ Some n
is_there None n e = absurd (cc)
is_there (Some k) n e = ap (λ (j : ℕ). Some j) (equal_numbers k n e)

-- ---- the end

pub end_is_call : (i : Instr) → is_end i ≡ is_call_of Intrinsic.CoroEnd i
end_is_call (Instr.Call r must_tail ty (Callee.Intrinsic x) args) = on x
  where
    on : (x : Intrinsic) → is_end (Instr.Call r must_tail ty (Callee.Intrinsic x) args) ≡ is_call_of Intrinsic.CoroEnd (Instr.Call r must_tail ty (Callee.Intrinsic x) args)
    on Intrinsic.CoroEnd = refl
    on _ = refl
end_is_call _ = refl

pub has_end_any : (is : List Instr) → has_end is ≡ list_any (is_call_of Intrinsic.CoroEnd) is
has_end_any [] = refl
has_end_any (i ∷ is) = on (is_end i) (is_call_of Intrinsic.CoroEnd i) (end_is_call i) (has_end_any is)
  where
    on : (a b : Bool) → a ≡ b → has_end is ≡ list_any (is_call_of Intrinsic.CoroEnd) is → (if a then true else has_end is) ≡ (b || list_any (is_call_of Intrinsic.CoroEnd) is)
    on true true e more = refl
    on false false e more = more
    on true false e more = absurd (cc)
    on false true e more = absurd (cc)

-- the label of the end is the same in both words of it
abbrev pub ends_here : Block → Bool
ends_here b = list_any (is_call_of Intrinsic.CoroEnd) b.instrs

abbrev pub label_at_end : List Block → Option ℕ → Option ℕ
label_at_end bs o = option_map label_of (slice_get bs (unwrap_or o (length bs)))

pub same_end : (bs : List Block) → label_at_end bs (first_where ends_here bs) ≡ end_label bs
same_end [] = refl
same_end (b ∷ bs) = on (ends_here b) (has_end b.instrs) (has_end_any b.instrs) (first_where ends_here bs) (same_end bs)
  where
    further : (o : Option ℕ) → label_at_end bs o ≡ end_label bs → label_at_end (b ∷ bs) (option_map suc o) ≡ end_label bs
    further None more = more
    further (Some n) more = more

    on : (x y : Bool) → y ≡ x → (o : Option ℕ) → label_at_end bs o ≡ end_label bs → label_at_end (b ∷ bs) (if x then Some 0 else option_map suc o) ≡ (if y then Some b.label else end_label bs)
    on true true e o more = refl
    on false false e o more = further o more
    on true false e o more = absurd (cc)
    on false true e o more = absurd (cc)

-- the first block with the end gives the label
pub record IsEndIn (bs : List Block) : Type 0 where
  pub block : Block
  pub listed : IsListed block bs
  pub has : has_end block.instrs ≡ true
  pub is : end_label bs ≡ Some block.label

pub first_end : (bs : List Block) (b : Block) → IsListed b bs → has_end b.instrs ≡ true → IsEndIn bs
first_end [] b l h = absurd l
first_end (c ∷ bs) b l h = on (has_end c.instrs) refl l (λ m. first_end bs b m h)
  where
    at : (x : Bool) → has_end c.instrs ≡ x → end_label (c ∷ bs) ≡ (if x then Some c.label else end_label bs)
    at x e = ap (λ (y : Bool). if y then Some c.label else end_label bs) e

    on : (x : Bool) → has_end c.instrs ≡ x → IsListed b (c ∷ bs) → (IsListed b bs → IsEndIn bs) → IsEndIn (c ∷ bs)
    on true e l more = record { block = c; listed = inl refl; has = e; is = at true e }
    on false e (inl same) more = let t : true ≡ false = sym h ∙ ap (λ (x : Block). has_end x.instrs) same ∙ e in absurd (cc)
    on false e (inr m) more = let x = more m in record { block = x.block; listed = inr x.listed; has = x.has; is = at false e ∙ x.is }

-- where the end stands among instructions
pub end_at : (is : List Instr) → has_end is ≡ true → (x : ℕ) × ((i : Instr) × ((slice_get is x ≡ Some i) × (is_end i ≡ true)))
end_at [] h = absurd (cc)
end_at (i ∷ is) h = on (is_end i) refl h (λ k. end_at is k)
  where
    on : (b : Bool) → is_end i ≡ b → (if b then true else has_end is) ≡ true → (has_end is ≡ true → (x : ℕ) × ((j : Instr) × ((slice_get is x ≡ Some j) × (is_end j ≡ true)))) → (x : ℕ) × ((j : Instr) × ((slice_get (i ∷ is) x ≡ Some j) × (is_end j ≡ true)))
    on true e k more = (0, (i, (refl, e)))
    on false e k more = let y = more k in (suc y.0, (y.1.0, (y.1.1.0, y.1.1.1)))

pub has_end_at : (is : List Instr) (x : ℕ) (i : Instr) → slice_get is x ≡ Some i → is_end i ≡ true → has_end is ≡ true
has_end_at [] x i e h = absurd (cc)
has_end_at (j ∷ is) zero i e h = let same : j ≡ i = cc in ap (λ (b : Bool). if b then true else has_end is) (ap is_end same ∙ h)
has_end_at (j ∷ is) (suc x) i e h = on (is_end j) (has_end_at is x i e h)
  where
    on : (b : Bool) → has_end is ≡ true → (if b then true else has_end is) ≡ true
    on true more = refl
    on false more = more

-- the end stands first in its block, which has no phis
pub right_end : (f : Function) (k : ℕ) (place : Place) (i : Instr) → is_end i ≡ true → is_right_instr (calls_of k f) place i ≡ true → is_first_in_block place ≡ true
right_end f k place (Instr.Call r must_tail ty (Callee.Intrinsic Intrinsic.CoroEnd) args) e h = and_first (is_first_in_block place) (has_no_other_frame (calls_of k f) args) h
right_end f k place _ e h = absurd (cc)

pub no_phi : (ps : List Phi) → length ps ≡ 0 → ps ≡ []
no_phi [] e = refl
no_phi (p ∷ ps) e = absurd (omega (arith, e))

-- the instruction that stands first
pub record BeginsWithEnd (b : Block) : Type 0 where
  pub no_phis : b.phis ≡ []
  pub first : Instr
  pub rest : List Instr
  pub is : b.instrs ≡ first ∷ rest
  pub is_end : is_end first ≡ true

pub begins_with : (b : Block) (is : List Instr) → b.instrs ≡ is → b.phis ≡ [] → (i : Instr) → slice_get is 0 ≡ Some i → is_end i ≡ true → BeginsWithEnd b
begins_with b [] e none i d h = absurd (cc)
begins_with b (j ∷ js) e none i d h = let same : j ≡ i = cc in record { no_phis = none; first = j; rest = js; is = e; is_end = ap is_end same ∙ h }

-- ---- suspends

-- a suspend point of a block
pub record IsPointOf (b : Block) (p : SuspendPoint) : Type 0 where
  pub instr : Instr
  pub listed : IsListed instr b.instrs
  pub is_one : is_suspend instr ≡ true
  pub block : p.block ≡ b.label
  pub resume : p.resume ≡ label_of_term 0 b.term
  pub destroy : p.destroy ≡ label_of_term 1 b.term

module _ (p : SuspendPoint) where
  one_suspend : (all : List SuspendPoint) (b : Block) (i : Instr) → IsListed i b.instrs → IsListed p (with_suspend all b i) → IsListed p all ⊎ IsPointOf b p
  one_suspend all b (Instr.Call r must_tail ty (Callee.Intrinsic Intrinsic.CoroSuspend) args) m l =
      ⊎_elim (λ old. inl old)
      (λ new. ⊎_elim
      (λ (e : p ≡ _). inr (record { instr = Instr.Call r must_tail ty (Callee.Intrinsic Intrinsic.CoroSuspend) args; listed = m; is_one = refl; block = ap (λ (q : SuspendPoint). q.block) e; resume = ap (λ (q : SuspendPoint). q.resume) e; destroy = ap (λ (q : SuspendPoint). q.destroy) e }))
      (λ none. absurd none) new)
      (listed_either p all _ l)
  one_suspend all b _ m l = inl l

  in_suspends : (all : List SuspendPoint) (b : Block) (is : List Instr) → ((i : Instr) → IsListed i is → IsListed i b.instrs) → IsListed p (with_suspends_in all b is) → IsListed p all ⊎ IsPointOf b p
  in_suspends all b [] h l = inl l
  in_suspends all b (i ∷ is) h l =
      ⊎_elim (λ k. one_suspend all b i (h i (inl refl)) k) (λ x. inr x) (in_suspends (with_suspend all b i) b is (λ j m. h j (inr m)) l)

  abbrev IsPointIn : List Block → Type 0
  IsPointIn bs = (b : Block) × (IsListed b bs × IsPointOf b p)

  by_suspends : (all : List SuspendPoint) (bs : List Block) → IsListed p (with_suspends_by all bs) → IsListed p all ⊎ IsPointIn bs
  by_suspends all [] l = inl l
  by_suspends all (b ∷ bs) l =
      ⊎_elim
      (λ k. ⊎_elim (λ old. inl old) (λ x. inr (b, (inl refl, x))) (in_suspends all b b.instrs (λ i m. m) k))
      (λ (x : IsPointIn bs). inr (x.0, (inr x.1.0, x.1.1)))
      (by_suspends (with_suspends_in all b b.instrs) bs l)

  pub point_home : (f : Function) → IsListed p (suspends_of f) → IsPointIn f.blocks
  point_home f l = ⊎_elim (λ none. absurd none) (λ x. x) (by_suspends [] f.blocks l)

  -- ---- the other way round

  kept_one : (all : List SuspendPoint) (b : Block) (i : Instr) → IsListed p all → IsListed p (with_suspend all b i)
  kept_one all b (Instr.Call r must_tail ty (Callee.Intrinsic Intrinsic.CoroSuspend) args) l = listed_left p all _ l
  kept_one all b _ l = l

  kept_in : (all : List SuspendPoint) (b : Block) (is : List Instr) → IsListed p all → IsListed p (with_suspends_in all b is)
  kept_in all b [] l = l
  kept_in all b (i ∷ is) l = kept_in (with_suspend all b i) b is (kept_one all b i l)

  kept_by : (all : List SuspendPoint) (bs : List Block) → IsListed p all → IsListed p (with_suspends_by all bs)
  kept_by all [] l = l
  kept_by all (b ∷ bs) l = kept_by (with_suspends_in all b b.instrs) bs (kept_in all b b.instrs l)

-- a suspend of a block is listed
pub record HasPoint (b : Block) (ps : List SuspendPoint) : Type 0 where
  pub point : SuspendPoint
  pub listed : IsListed point ps
  pub block : point.block ≡ b.label
  pub resume : point.resume ≡ label_of_term 0 b.term
  pub destroy : point.destroy ≡ label_of_term 1 b.term

to_one : (all : List SuspendPoint) (b : Block) (i : Instr) → is_suspend i ≡ true → HasPoint b (with_suspend all b i)
to_one all b (Instr.Call r must_tail ty (Callee.Intrinsic Intrinsic.CoroSuspend) args) h = record { point = _; listed = listed_right _ all _ (inl refl); block = refl; resume = refl; destroy = refl }
to_one all b _ h = absurd (cc)

to_in : (all : List SuspendPoint) (b : Block) (is : List Instr) (i : Instr) → IsListed i is → is_suspend i ≡ true → HasPoint b (with_suspends_in all b is)
to_in all b [] i l h = absurd l
to_in all b (j ∷ is) i (inl e) h =
    let x = to_one all b j (ap is_suspend (sym e) ∙ h) in
    record { point = x.point; listed = kept_in x.point (with_suspend all b j) b is x.listed; block = x.block; resume = x.resume; destroy = x.destroy }
to_in all b (j ∷ is) i (inr l) h = to_in (with_suspend all b j) b is i l h

to_by : (all : List SuspendPoint) (bs : List Block) (b : Block) (i : Instr) → IsListed b bs → IsListed i b.instrs → is_suspend i ≡ true → HasPoint b (with_suspends_by all bs)
to_by all [] b i l m h = absurd l
to_by all (c ∷ bs) b i (inl e) m h =
    let x = to_in all b b.instrs i m h in
    let y : IsListed x.point (with_suspends_in all c c.instrs) = subst (λ (d : Block). IsListed x.point (with_suspends_in all d d.instrs)) e x.listed in
    record { point = x.point; listed = kept_by x.point (with_suspends_in all c c.instrs) bs y; block = x.block; resume = x.resume; destroy = x.destroy }
to_by all (c ∷ bs) b i (inr l) m h = to_by (with_suspends_in all c c.instrs) bs b i l m h

pub has_point_of : (f : Function) (b : Block) (i : Instr) → IsListed b f.blocks → IsListed i b.instrs → is_suspend i ≡ true → HasPoint b (suspends_of f)
has_point_of f b i l m h = to_by [] f.blocks b i l m h

-- ---- switches

-- the label of a number is one to which the switch leads
pub label_in_targets : (n : ℕ) (cases : List Case) (default : ℕ) → IsListed (label_in n cases default) (default ∷ map (λ k. k.target) cases)
label_in_targets n [] default = inl refl
label_in_targets n (k ∷ cases) default = on (is_number n k.arg.value) (label_in_targets n cases default)
  where
    on : (t : Bool) → IsListed (label_in n cases default) (default ∷ map (λ c. c.target) cases) → IsListed (if t then k.target else label_in n cases default) (default ∷ k.target ∷ map (λ c. c.target) cases)
    on true l = inr (inl refl)
    on false (inl e) = inl e
    on false (inr l) = inr (inr l)

-- a number is another
number_is : (n : ℕ) (x : Operand) → is_number n x ≡ true → x ≡ Operand.Number (pos n)
number_is n (Operand.Number (pos k)) e = let same : n ≡ k = equal_numbers n k e in ap (λ (j : ℕ). Operand.Number (pos j)) (sym same)
number_is n _ e = absurd (cc)

-- of a switch with exactly the cases 0 and 1 the targets are the default and the labels of 0 and 1
both_targets : (a b : Case) (default x y : ℕ) → (is_number x a.arg.value && is_number y b.arg.value) ≡ true → is_number y (Operand.Number (pos x)) ≡ false → (label_in x (a ∷ b ∷ []) default ≡ a.target) × (label_in y (a ∷ b ∷ []) default ≡ b.target)
both_targets a b default x y h other =
    let first : is_number x a.arg.value ≡ true = and_first (is_number x a.arg.value) (is_number y b.arg.value) h in
    let second : is_number y b.arg.value ≡ true = and_second (is_number x a.arg.value) (is_number y b.arg.value) h in
    let none : is_number y a.arg.value ≡ false = ap (is_number y) (number_is x a.arg.value first) ∙ other in (
      ap (λ (t : Bool). if t then a.target else label_in x (b ∷ []) default) first,
      ap (λ (t : Bool). if t then a.target else label_in y (b ∷ []) default) none ∙ ap (λ (t : Bool). if t then b.target else default) second,
    )

pub case_targets : (cases : List Case) (default label : ℕ) → are_both cases ≡ true → IsListed label (map (λ k. k.target) cases) → (label ≡ label_in 0 cases default) ⊎ (label ≡ label_in 1 cases default)
case_targets (a ∷ b ∷ []) default label h l = on (is_number 0 a.arg.value && is_number 1 b.arg.value) refl h
  where
    on : (t : Bool) → (is_number 0 a.arg.value && is_number 1 b.arg.value) ≡ t → (t || (is_number 1 a.arg.value && is_number 0 b.arg.value)) ≡ true → (label ≡ label_in 0 (a ∷ b ∷ []) default) ⊎ (label ≡ label_in 1 (a ∷ b ∷ []) default)
    on true e k = let x = both_targets a b default 0 1 e refl in ⊎_elim (λ d. inl (d ∙ sym x.0)) (λ m. ⊎_elim (λ d. inr (d ∙ sym x.1)) (λ none. absurd none) m) l
    on false e k = let x = both_targets a b default 1 0 k refl in ⊎_elim (λ d. inr (d ∙ sym x.0)) (λ m. ⊎_elim (λ d. inl (d ∙ sym x.1)) (λ none. absurd none) m) l
case_targets [] default label h l = absurd l
case_targets (a ∷ []) default label h l = absurd (cc)
case_targets (a ∷ b ∷ c ∷ cs) default label h l = absurd (cc)
