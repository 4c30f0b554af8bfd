-- No token is taken twice, as each save has one suspend (rule K6).
use Rattle.std.proofs.Common.{◌≡◌, inl, inr, ⊎_elim, ℕ, suc, ◌+◌, ◌≤◌, Bool, true, false, List, [], ◌∷◌, ◌++◌, append_assoc, length, refl, sym, ap, ◌∙◌, subst, arith, length-append}
use Rattle.std.specs.Prelude.{Some, None, Option, flat_map, map, option_and_then, option_to_list, if◌then◌else◌, ◌==◌}
use Rattle.ir_laws.proofs.facts.Truth.{equal_numbers, itself}
use Rattle.ir_laws.proofs.facts.local_rules.Woven.{other_number}
use Rattle.rule_laws.proofs.rules.path_rules.Windows.{of_window}
use Rattle.ir_laws.proofs.paths.source_rules.Locals.{listed_either}
use Rattle.rule_laws.proofs.frames.spared.Tokens.{taken, tokens_found}
use Rattle.ir_laws.specs.flow_solver.Paths.{IsListed}
use Rattle.rule_laws.proofs.rules.shape.Saves.{IsSave}
use Rattle.rule_laws.proofs.frames.shape.Saves.{taken_saved}
use Rattle.rule_laws.specs.rules.function_rules.Kept.{KeepsFunctionRules}
use Rattle.pass_intrinsics.specs.Shapes.{token_of}
use Rattle.ir_laws.specs.ir_model.Names.{is_local}
use Rattle.ir_laws.specs.ir_model.declared.instr.Instr.{Instr}
use Rattle.ir_laws.specs.ir_model.declared.module.Block.{Block}
use Rattle.ir_laws.specs.ir_model.declared.module.Function.{Function}
use Rattle.ir_laws.specs.ir_model.declared.module.Module.{Module}
use Rattle.ir_laws.specs.ir_model.declared.operand.Callee.{Callee}
use Rattle.ir_laws.specs.ir_model.declared.operand.Intrinsic.{Intrinsic}
use Rattle.ir_laws.specs.ir_model.declared.operand.Operand.{Operand}
use Rattle.ir_laws.specs.ir_paths.Windows.{call_result, instr_at, instr_in, is_suspend_of, operand_at, points_from, points_in, points_where}
use Rattle.ir_laws.specs.ir_paths.declared.point.Point.{Point}
use Rattle.rule_laws.specs.frames.replaced.Splittable.{tokens_taken}
use Rattle.rule_windows.specs.Windows.{IsFirstWindow, NotOne, suspends_of}
use Rattle.rule_laws.proofs.rules.woven_rules.Once.{once_apart}
use Rattle.ir_laws.proofs.facts.Lists.{times_joined}
use Rattle.ir_laws.proofs.paths.woven_rules.Once.{times_none}
use Rattle.ir_laws.specs.paths.woven_rules.Pairs.{AreDifferent}
use Rattle.ir_laws.specs.facts.woven_rules.Pairs.{one_if, times}
use Rattle.ir_laws.proofs.paths.crossing.Spots.{listed_or}
use Rattle.rule_laws.specs.rules.woven_shape.Calls.{ShapingCall, call_at, calls_in, calls_of_block, is_suspend_call, joined, shaping_calls}

-- ---- as many suspends take a token as it is taken

turned_same : (a b : ℕ) → (a == b) ≡ (b == a)
turned_same a b = on (a == b) refl
  where
    on : (t : Bool) → (a == b) ≡ t → (a == b) ≡ (b == a)
    on true e = e ∙ sym (ap (λ (n : ℕ). b == n) (equal_numbers a b e) ∙ itself b)
    on false e = e ∙ sym (other_number b a (λ s. let t : true ≡ false = sym (ap (λ (n : ℕ). a == n) s ∙ itself a) ∙ e in absurd (cc)))

all_joined : (F : ShapingCall → List ℕ) (cs ds : List ShapingCall) → flat_map F (cs ++ ds) ≡ flat_map F cs ++ flat_map F ds
all_joined F [] ds = refl
all_joined F (c ∷ cs) ds = ap (λ (ns : List ℕ). F c ++ ns) (all_joined F cs ds) ∙ sym (append_assoc (F c) (flat_map F cs) (flat_map F ds))

module _ (v : ℕ) where
  abbrev test : Instr → Bool
  test i = is_suspend_of (Some v) i

  one_token : (x : Operand) → one_if (is_local v x) ≡ times v (option_to_list (token_of x) ++ [])
  one_token (Operand.Local n) = (let none : one_if (n == v) ≡ one_if (n == v) + 0 = omega arith in ap one_if (turned_same v n) ∙ none)
  one_token _ = refl

  one_call : (b : Block) (at : ℕ) (i : Instr) → one_if (is_suspend_of (Some v) i) ≡ times v (flat_map taken (call_at b at i))
  one_call b at (Instr.Call r must_tail ty (Callee.Intrinsic Intrinsic.CoroSuspend) args) = one_token (operand_at args 0)
  one_call b at _ = refl

  counted_if : (t : Bool) (p : Point) (ps : List Point) → length (if t then p ∷ ps else ps) ≡ one_if t + length ps
  counted_if true p ps = (let same : suc (length ps) ≡ 1 + length ps = omega arith in same)
  counted_if false p ps = (let same : length ps ≡ 0 + length ps = omega arith in same)

  instrs_counted : (b : Block) (block from at : ℕ) (is : List Instr) → length (points_from test block from is) ≡ times v (flat_map taken (calls_in b at is))
  instrs_counted b block from at [] = refl
  instrs_counted b block from at (i ∷ is) =
      counted_if (test i) (record { block = block; at = from }) (points_from test block (suc from) is)
      ∙ (λ k. one_call b at i k + instrs_counted b block (suc from) (at + 1) is k)
      ∙ sym (times_joined v (flat_map taken (call_at b at i)) (flat_map taken (calls_in b (at + 1) is)))
      ∙ ap (times v) (sym (all_joined taken (call_at b at i) (calls_in b (at + 1) is)))

  blocks_counted : (block : ℕ) (bs : List Block) → length (points_in test block bs) ≡ times v (flat_map taken (joined (map calls_of_block bs)))
  blocks_counted block [] = refl
  blocks_counted block (b ∷ bs) =
      length-append (points_from test block 0 b.instrs) (points_in test (suc block) bs)
      ∙ (λ k. instrs_counted b block 0 (length b.phis) b.instrs k + blocks_counted (suc block) bs k)
      ∙ sym (times_joined v (flat_map taken (calls_of_block b)) (flat_map taken (joined (map calls_of_block bs))))
      ∙ ap (times v) (sym (all_joined taken (calls_of_block b) (joined (map calls_of_block bs))))

  pub counted : (f : Function) → length (points_where test f) ≡ times v (tokens_taken f)
  counted f = blocks_counted 0 f.blocks ∙ ap (times v) (sym (tokens_found f))

-- ---- a token that is taken is a save's

record IsTaken (cs : List ShapingCall) (v : ℕ) : Type 0 where
  call : ShapingCall
  listed : IsListed call cs
  suspends : is_suspend_call call ≡ true
  token : token_of call.first ≡ Some v

some_listed : (o : Option ℕ) (v : ℕ) → IsListed v (option_to_list o) → o ≡ Some v
some_listed None v l = absurd l
some_listed (Some n) v (inl e) = ap (λ (k : ℕ). Some k) (sym e)
some_listed (Some n) v (inr l) = absurd l

taken_by : (cs : List ShapingCall) (v : ℕ) → IsListed v (flat_map taken cs) → IsTaken cs v
taken_by [] v l = absurd l
taken_by (c ∷ cs) v l = ⊎_elim (own (is_suspend_call c) refl) (λ r. further (taken_by cs v r)) (listed_either v (taken c) (flat_map taken cs) l)
  where
    further : IsTaken cs v → IsTaken (c ∷ cs) v
    further x = record { call = x.call; listed = inr x.listed; suspends = x.suspends; token = x.token }

    own : (t : Bool) → is_suspend_call c ≡ t → IsListed v (if t then option_to_list (token_of c.first) else []) → IsTaken (c ∷ cs) v
    own true s h = record { call = c; listed = inl refl; suspends = s; token = some_listed (token_of c.first) v h }
    own false s h = absurd h

-- ---- each save has one suspend

not_longer : (ps : List Point) → (((s : Point) → ps ≡ s ∷ [] → ⊥) → ⊥) → length ps ≤ 1
not_longer [] h = omega arith
not_longer (p ∷ []) h = omega arith
not_longer (p ∷ q ∷ ps) h = absurd (h (λ s e. let one : suc (suc (length ps)) ≡ 1 = ap length e in omega (arith, one)))

pub tokens_different : (m : Module) (k : ℕ) (f : Function) → KeepsFunctionRules m k f → f.coroutine ≡ true → IsFirstWindow k f None → AreDifferent (tokens_taken f)
tokens_different m k f rules coroutine window = once_apart (tokens_taken f) most
  where
    saved : (v : ℕ) → IsSave f v → times v (tokens_taken f) ≤ 1
    saved v x =
        let q : Point = record { block = x.position; at = x.at } in
        let there : instr_at f q ≡ Some x.instr = ap (λ (o : Option Block). instr_in o x.at) x.got ∙ x.there in
        let token : option_and_then call_result (instr_at f q) ≡ Some v = ap (option_and_then call_result) there ∙ x.makes in
        let short : length (suspends_of f q) ≤ 1 = not_longer (suspends_of f q) (λ h. (of_window k f coroutine window).each q x.instr there x.saves (NotOne h)) in
        let same : length (suspends_of f q) ≡ times v (tokens_taken f) = ap (λ (o : Option ℕ). length (points_where (is_suspend_of o) f)) token ∙ counted v f in
        omega (arith, short, same)

    none : (v : ℕ) → (IsListed v (tokens_taken f) → ⊥) → times v (tokens_taken f) ≤ 1
    none v h = let z : times v (tokens_taken f) ≡ 0 = times_none v (tokens_taken f) h in omega (arith, z)

    some : (v : ℕ) → IsListed v (tokens_taken f) → times v (tokens_taken f) ≤ 1
    some v l =
        let x = taken_by (shaping_calls f) v (subst (λ (ns : List ℕ). IsListed v ns) (tokens_found f) l) in
        saved v (taken_saved m k f rules x.call x.listed x.suspends v x.token)

    most : (v : ℕ) → times v (tokens_taken f) ≤ 1
    most v = ⊎_elim (some v) (none v) (listed_or v (tokens_taken f))
