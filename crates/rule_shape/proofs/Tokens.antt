-- A coroutine that rule K2 leaves has an id with a token.
use Rattle.std.proofs.Common.{◌≡◌, ◌+◌, ℕ, Bool, true, false, ◌||◌, not, List, [], ◌∷◌, ◌++◌, length, refl, sym, ap, subst, ◌∙◌}
use Rattle.std.proofs.lemmas.Bool.{false≢true}
use Rattle.std.specs.Prelude.{Option, Some, None, find, is_some, is_none, option_and_then, unwrap_or, IsTrue, if◌then◌else◌}
use Rattle.ir_base.specs.declared.outcome.Place.{Place}
use Rattle.ir_base.specs.declared.rule.Rule.{Rule}
use Rattle.rule_windows.specs.ir_parts.Parts.{Part, OfInstr, Ending, block_parts, block_place, blocks_parts, first_part, function_place, instr_parts, instr_place, or_place, parts_of, phi_parts, place_if}
use Rattle.rule_windows.proofs.ir_parts.FirstParts.{first_part_append}
use Rattle.ir_model.specs.declared.instr.Instr.{Instr}
use Rattle.ir_model.specs.declared.module.Block.{Block}
use Rattle.ir_model.specs.declared.module.Function.{Function}
use Rattle.ir_model.specs.declared.operand.Arg.{Arg}
use Rattle.ir_model.specs.declared.operand.Callee.{Callee}
use Rattle.ir_model.specs.declared.operand.Intrinsic.{Intrinsic}
use Rattle.ir_model.specs.declared.operand.Operand.{Operand}
use Rattle.rule_windows.specs.ir_paths.Windows.{call_result, is_call_of, operand_at}
use Rattle.rule_windows.specs.ir_calls.Calls.{first_call, first_call_by, first_call_in, is_value, or_instr, value_of_first}
use Rattle.rule_shape.specs.OneOfEach.{breaks_calls, calls_of, is_missing, is_right_instr, is_second, wrong_call}
use Rattle.rule_shape.specs.Promise.{wrong_promise}
use Rattle.rule_shape.specs.Suspends.{second_final, suspend_too_many}
use Rattle.rule_shape.specs.Switches.{wrong_switch}
use Rattle.rule_shape.specs.Shape.{After, EndsInShape, GoesByPaths, HasToken, IsAnswer, shape_in}
use Rattle.rule_windows.specs.Outside.{IsFirstOutside}
use Rattle.rule_windows.specs.Windows.{IsFirstWindow}
use Rattle.rule_shape.specs.declared.one_of_each.Calls.{Calls}
use Rattle.rule_shape.specs.declared.shape.Answer.{Answer}

none_first : (o q : Option Place) → or_place o q ≡ None → o ≡ None
none_first None q e = refl
none_first (Some p) q e = e

none_second : (o q : Option Place) → or_place o q ≡ None → q ≡ None
none_second None q e = e
none_second (Some p) q e = cc

none_if : (b : Bool) (p : Place) → place_if b p ≡ None → b ≡ false
none_if false p e = refl
none_if true p e = cc

-- the call breaks nothing at some place
record Passes (breaks : Place → Part → Bool) (i : Instr) : Type 0 where
  place : Place
  passes : breaks place (OfInstr i) ≡ false

in_instrs : (breaks : Place → Part → Bool) (func block at : ℕ) (is : List Instr) (i : Instr) (k : Intrinsic) → first_call_in k is ≡ Some i → first_part breaks (instr_parts func block at is) ≡ None → Passes breaks i
in_instrs breaks func block at [] i k e h = cc
in_instrs breaks func block at (x ∷ is) i k e h = by (λ s t. in_instrs breaks func block (at + 1) is i k s t) (is_call_of k x) e
  where
    here : breaks (instr_place func block at) (OfInstr x) ≡ false
    here = none_if (breaks (instr_place func block at) (OfInstr x)) (instr_place func block at) (none_first (place_if (breaks (instr_place func block at) (OfInstr x)) (instr_place func block at)) (first_part breaks (instr_parts func block (at + 1) is)) h)

    rest : first_part breaks (instr_parts func block (at + 1) is) ≡ None
    rest = none_second (place_if (breaks (instr_place func block at) (OfInstr x)) (instr_place func block at)) (first_part breaks (instr_parts func block (at + 1) is)) h

    by : (first_call_in k is ≡ Some i → first_part breaks (instr_parts func block (at + 1) is) ≡ None → Passes breaks i) → (b : Bool) → (if b then Some x else find (is_call_of k) is) ≡ Some i → Passes breaks i
    by later true s = let same : x ≡ i = cc in record { place = instr_place func block at; passes = sym (ap (λ (y : Instr). breaks (instr_place func block at) (OfInstr y)) same) ∙ here }
    by later false s = later s rest

in_block : (breaks : Place → Part → Bool) (func at : ℕ) (b : Block) (i : Instr) (k : Intrinsic) → first_call_in k b.instrs ≡ Some i → first_part breaks (block_parts func at b) ≡ None → Passes breaks i
unfolding block_parts
in_block breaks func at b i k e h =
    let phis = phi_parts func at 0 b.phis in
    let instrs = instr_parts func at (length b.phis) b.instrs in
    let end = (instr_place func at (length b.phis + length b.instrs), Ending b.term) ∷ [] in
    let h1 = none_second (place_if (breaks (block_place func at) (Part.Head b)) (block_place func at)) (first_part breaks (phis ++ (instrs ++ end))) h in
    let h2 = none_second (first_part breaks phis) (first_part breaks (instrs ++ end)) (sym (first_part_append breaks phis (instrs ++ end)) ∙ h1) in
    let h3 = none_first (first_part breaks instrs) (first_part breaks end) (sym (first_part_append breaks instrs end) ∙ h2) in
    in_instrs breaks func at (length b.phis) b.instrs i k e h3

in_blocks : (breaks : Place → Part → Bool) (func at : ℕ) (bs : List Block) (i : Instr) (k : Intrinsic) → first_call_by k bs ≡ Some i → first_part breaks (blocks_parts func at bs) ≡ None → Passes breaks i
in_blocks breaks func at [] i k e h = cc
in_blocks breaks func at (b ∷ bs) i k e h = by (λ s t. in_blocks breaks func (at + 1) bs i k s t) (first_call_in k b.instrs) refl e
  where
    split : or_place (first_part breaks (block_parts func at b)) (first_part breaks (blocks_parts func (at + 1) bs)) ≡ None
    split = sym (first_part_append breaks (block_parts func at b) (blocks_parts func (at + 1) bs)) ∙ h

    by : (first_call_by k bs ≡ Some i → first_part breaks (blocks_parts func (at + 1) bs) ≡ None → Passes breaks i) → (o : Option Instr) → first_call_in k b.instrs ≡ o → or_instr o (first_call_by k bs) ≡ Some i → Passes breaks i
    by later (Some x) is s = in_block breaks func at b i k (is ∙ s) (none_first (first_part breaks (block_parts func at b)) (first_part breaks (blocks_parts func (at + 1) bs)) split)
    by later None is s = later s (none_second (first_part breaks (block_parts func at b)) (first_part breaks (blocks_parts func (at + 1) bs)) split)

-- ---- begin has id's token

is_called : (k : Intrinsic) (is : List Instr) (i : Instr) → first_call_in k is ≡ Some i → is_call_of k i ≡ true
is_called k [] i e = cc
is_called k (x ∷ is) i e = by (is_called k is i) (is_call_of k x) refl e
  where
    by : (first_call_in k is ≡ Some i → is_call_of k i ≡ true) → (b : Bool) → is_call_of k x ≡ b → (if b then Some x else find (is_call_of k) is) ≡ Some i → is_call_of k i ≡ true
    by later true t s = let same : x ≡ i = cc in sym (ap (is_call_of k) same) ∙ t
    by later false t s = later s

is_called_by : (k : Intrinsic) (bs : List Block) (i : Instr) → first_call_by k bs ≡ Some i → is_call_of k i ≡ true
is_called_by k [] i e = cc
is_called_by k (b ∷ bs) i e = by (is_called_by k bs i) (first_call_in k b.instrs) refl e
  where
    by : (first_call_by k bs ≡ Some i → is_call_of k i ≡ true) → (o : Option Instr) → first_call_in k b.instrs ≡ o → or_instr o (first_call_by k bs) ≡ Some i → is_call_of k i ≡ true
    by later (Some x) is s = is_called k b.instrs i (is ∙ s)
    by later None is s = later s

some_value : (v : Option ℕ) (x : Operand) → is_value v x ≡ true → is_some v ≡ true
some_value None x e = absurd (false≢true e)
some_value (Some n) x e = refl

has_token_by : (c : Calls) (p : Place) (i : Instr) → is_call_of Intrinsic.CoroBegin i ≡ true → is_right_instr c p i ≡ true → is_some c.token ≡ true
has_token_by c p (Instr.Call result must_tail ty (Callee.Intrinsic Intrinsic.CoroBegin) args) e right = some_value c.token (operand_at args 0) right
has_token_by c p _ e right = absurd (false≢true e)

right_of : (a b : Bool) → (a || not b) ≡ false → b ≡ true
right_of true b e = absurd (false≢true (sym e))
right_of false true e = refl
right_of false false e = absurd (false≢true (sym e))

none_of_two : (a b : Bool) → (a || b) ≡ false → b ≡ false
none_of_two true b e = absurd (false≢true (sym e))
none_of_two false b e = e

none_of_first : (a b : Bool) → (a || b) ≡ false → a ≡ false
none_of_first true b e = absurd (false≢true (sym e))
none_of_first false b e = refl

record Found (o : Option Instr) : Type 0 where
  instr : Instr
  is : o ≡ Some instr

found_of : (o : Option Instr) → is_none o ≡ false → Found o
found_of None e = absurd (false≢true (sym e))
found_of (Some i) e = record { instr = i; is = refl }

has_token : (func : ℕ) (f : Function) → first_part (breaks_calls (calls_of func f)) (parts_of func f) ≡ None → is_some (value_of_first Intrinsic.CoroId f) ≡ true
has_token func f h =
    let c = calls_of func f in
    let first = place_if c.is_missing (function_place func) in
    let rest = first_part (breaks_calls c) (blocks_parts func 0 f.blocks) in
    let none_missing = none_if c.is_missing (function_place func) (none_first first rest h) in
    let begin_there = none_of_first (is_missing Intrinsic.CoroBegin f) (is_missing Intrinsic.CoroEnd f) (none_of_two (is_missing Intrinsic.CoroId f) (is_missing Intrinsic.CoroBegin f || is_missing Intrinsic.CoroEnd f) none_missing) in
    let begin = found_of (first_call Intrinsic.CoroBegin f) begin_there in
    let passes = in_blocks (breaks_calls c) func 0 f.blocks begin.instr Intrinsic.CoroBegin begin.is (none_second first rest h) in
    has_token_by c passes.place begin.instr (is_called_by Intrinsic.CoroBegin f.blocks begin.instr begin.is)
    (right_of (is_second c passes.place) (is_right_instr c passes.place begin.instr) passes.passes)

-- ---- the answer

pub after_some : (rule : Rule) (o : Option Place) (p : Place) (a : Answer) (Later : Type 0) → o ≡ Some p → a ≡ Answer.Refused rule p → After rule o a Later
after_some rule o p a Later e is = subst (λ (q : Option Place). After rule q a Later) (sym e) is

pub after_none : (rule : Rule) (o : Option Place) (a : Answer) (Later : Type 0) → o ≡ None → Later → After rule o a Later
after_none rule o a Later e h = subst (λ (q : Option Place). After rule q a Later) (sym e) h

unwrapped : (o : Option ℕ) → is_some o ≡ true → o ≡ Some (unwrap_or o 0)
unwrapped None e = absurd (false≢true e)
unwrapped (Some n) e = refl

refused_has : (f : Function) (rule : Rule) (p : Place) (a : Answer) → a ≡ Answer.Refused rule p → HasToken f a
refused_has f rule p a e = subst (HasToken f) (sym e) tt

after_has : (f : Function) (rule : Rule) (o : Option Place) (a : Answer) (Later : Type 0) → (Later → HasToken f a) → After rule o a Later → HasToken f a
after_has f rule None a Later h later = h later
after_has f rule (Some p) a Later h e = refused_has f rule p a e

ends_has : (func : ℕ) (f : Function) (a : Answer) → is_some (value_of_first Intrinsic.CoroId f) ≡ true → EndsInShape func f a → HasToken f a
ends_has func f a there ends =
    after_has f Rule.K10 (wrong_promise func f) a (After Rule.K11 (suspend_too_many func f) a (a ≡ Answer.Shape (shape_in func f)))
    (after_has f Rule.K11 (suspend_too_many func f) a (a ≡ Answer.Shape (shape_in func f))
    (λ e. subst (HasToken f) (sym e) (unwrapped (value_of_first Intrinsic.CoroId f) there)))
    ends

paths_have : (func : ℕ) (f : Function) (a : Answer) → is_some (value_of_first Intrinsic.CoroId f) ≡ true → GoesByPaths func f a → HasToken f a
paths_have func f a there g =
    after_has f Rule.K5 g.outside a (IsFirstWindow func f g.window × After Rule.K6 g.window a (EndsInShape func f a))
    (λ w. after_has f Rule.K6 g.window a (EndsInShape func f a) (ends_has func f a there) w.1)
    g.rest

by_calls : (func : ℕ) (f : Function) (o : Option Place) (a : Answer) (Later : Type 0) → (o ≡ None → Later → HasToken f a) → After Rule.K2 o a Later → HasToken f a
by_calls func f None a Later h later = h refl later
by_calls func f (Some p) a Later h e = refused_has f Rule.K2 p a e

pub token_is : (func : ℕ) (f : Function) (a : Answer) → f.coroutine ≡ true → IsAnswer func f a → HasToken f a
token_is func f a co answer =
    let turned : wrong_call func f ≡ None → first_part (breaks_calls (calls_of func f)) (parts_of func f) ≡ None = λ none.
    sym (ap (λ (b : Bool). if b then first_part (breaks_calls (calls_of func f)) (parts_of func f) else None) co) ∙ none in
    by_calls func f (wrong_call func f) a (After Rule.K3 (wrong_switch func f) a (After Rule.K4 (second_final func f) a (GoesByPaths func f a)))
    (λ none. after_has f Rule.K3 (wrong_switch func f) a (After Rule.K4 (second_final func f) a (GoesByPaths func f a))
    (after_has f Rule.K4 (second_final func f) a (GoesByPaths func f a) (paths_have func f a (has_token func f (turned none)))))
    answer

-- ---- K5 and K6

pub paths_outside : (func : ℕ) (f : Function) (o : Option Place) (p : Place) (a : Answer) → IsFirstOutside func f o → o ≡ Some p → a ≡ Answer.Refused Rule.K5 p → GoesByPaths func f a
paths_outside func f o p a first e is =
    record { outside = o; is_outside = first; window = None; rest = after_some Rule.K5 o p a (IsFirstWindow func f None × After Rule.K6 None a (EndsInShape func f a)) e is }

pub paths_window : (func : ℕ) (f : Function) (o w : Option Place) (p : Place) (a : Answer) → IsFirstOutside func f o → o ≡ None → IsFirstWindow func f w → w ≡ Some p → a ≡ Answer.Refused Rule.K6 p → GoesByPaths func f a
paths_window func f o w p a first none second e is =
    record {
      outside = o;
      is_outside = first;
      window = w;
      rest = after_none Rule.K5 o a (IsFirstWindow func f w × After Rule.K6 w a (EndsInShape func f a)) none (second, after_some Rule.K6 w p a (EndsInShape func f a) e is);
    }

pub paths_ending : (func : ℕ) (f : Function) (o w : Option Place) (a : Answer) → IsFirstOutside func f o → o ≡ None → IsFirstWindow func f w → w ≡ None → EndsInShape func f a → GoesByPaths func f a
paths_ending func f o w a first none second none2 ends =
    record {
      outside = o;
      is_outside = first;
      window = w;
      rest = after_none Rule.K5 o a (IsFirstWindow func f w × After Rule.K6 w a (EndsInShape func f a)) none (second, after_none Rule.K6 w a (EndsInShape func f a) none2 ends);
    }
