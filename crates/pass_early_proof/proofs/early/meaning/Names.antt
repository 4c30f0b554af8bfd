-- Where begin's value gets a name, and where uses of coro.frame are renamed, locals stay positions of their tables.
use Rattle.std.proofs.Common.{◌≡◌, ℕ, ◌<◌, ◌≤◌, Bool, true, false, List, [], ◌∷◌, ◌++◌, length, refl, sym, subst, length-append, arith}
use Rattle.std.specs.Prelude.{Some, None, Option, map, if◌then◌else◌}
use Rattle.pass_early_proof.proofs.early.begin_naming.NamedParts.{same_but_begin, with_begin}
use Rattle.pass_early_proof.proofs.early.begin_naming.NamedActs.{mild}
use Rattle.run_states.proofs.renamed.Modules.{function_there}
use Rattle.pass_early_proof.proofs.early.renaming.Sameness.{mild as renaming_mild}
use Rattle.pass_early_proof.specs.early.renaming.Passes.{named_function, named_module, renamed_block, renamed_by_its_own, renamed_coroutine, renamed_function, renamed_module}
use Rattle.pass_early_proof.specs.early.renaming.Regular.{AllKeepRules}
use Rattle.pass_early.specs.BeginName.{begin_name, if_unnamed, named_block, named_instr, with_begin_name}
use Rattle.pass_early.specs.Early.{renaming_of}
use Rattle.pass_early.specs.Renaming.{is_renamed, renamed, renamed_arg, renamed_incoming, renamed_instr, renamed_phi, renamed_term}
use Rattle.pass_early.specs.declared.renaming.Renaming.{Renaming}
use Rattle.ir_model.specs.Calls.{first_result}
use Rattle.ir_model.specs.Names.{function_at}
use Rattle.ir_model.specs.declared.instr.Incoming.{Incoming}
use Rattle.ir_model.specs.declared.instr.Instr.{Instr}
use Rattle.ir_model.specs.declared.instr.Phi.{Phi}
use Rattle.ir_model.specs.declared.instr.Terminator.{Terminator}
use Rattle.ir_model.specs.declared.module.Block.{Block}
use Rattle.ir_model.specs.declared.module.Function.{Function}
use Rattle.ir_model.specs.declared.module.Module.{Module}
use Rattle.ir_model.specs.declared.module.Param.{Param}
use Rattle.ir_model.specs.declared.operand.Arg.{Arg}
use Rattle.ir_model.specs.declared.operand.Callee.{Callee}
use Rattle.ir_model.specs.declared.operand.Intrinsic.{Intrinsic}
use Rattle.ir_model.specs.declared.operand.Operand.{Operand}
use Rattle.rule_laws.specs.ir_laws.facts.expanded.Tokens.{IsNamed, IsNamedResult}
use Rattle.rule_laws.specs.run_laws.changed.Changed.{Each as EachOf, Each, operands_of, operands_of_term, result_of, values_of}
use Rattle.rule_laws.specs.ir_laws.facts.sound_states.Named.{AreLocalsNamed, AreUsesNamed, HasNamedLocals, HasNamedUses}
use Rattle.rule_laws.proofs.ir_laws.facts.Lists.{each_of_each as each_of_all}
use Rattle.rule_laws.proofs.ir_laws.facts.Members.{each_turns as each_all}

-- ---- lists

each_of_map : {A B : Type 0} (f : A → B) (P : A → Type 0) (Q : B → Type 0) → ((x : A) → P x → Q (f x)) → (xs : List A) → EachOf P xs → EachOf Q (map f xs)
each_of_map f P Q go [] h = tt
each_of_map f P Q go (x ∷ xs) h = (go x h.0, each_of_map f P Q go xs h.1)

-- ---- more names

operand_more : (n k : ℕ) → n ≤ k → (x : Operand) → IsNamed n x → IsNamed k x
operand_more n k le (Operand.Local v) h = omega arith
operand_more n k le (Operand.Global name) h = tt
operand_more n k le (Operand.Number z) h = tt
operand_more n k le Operand.True h = tt
operand_more n k le Operand.False h = tt
operand_more n k le Operand.Null h = tt
operand_more n k le Operand.None h = tt
operand_more n k le Operand.Poison h = tt

result_more : (n k : ℕ) → n ≤ k → (o : Option ℕ) → IsNamedResult n o → IsNamedResult k o
result_more n k le None h = tt
result_more n k le (Some v) h = omega arith

operands_more : (n k : ℕ) → n ≤ k → (xs : List Operand) → Each (IsNamed n) xs → Each (IsNamed k) xs
operands_more n k le xs h = each_all (IsNamed n) (IsNamed k) (operand_more n k le) xs h

-- ---- begin's value gets a name

module _ (f : Function) where
  abbrev n : ℕ
  n = length f.names

  abbrev more : ℕ
  more = length (f.names ++ begin_name ∷ [])

  longer : n < more
  longer = let len = length-append f.names (begin_name ∷ []) in omega (arith, len)

  within : n ≤ more
  within = let lt = longer in omega arith

  result_named : (i : Instr) → IsNamedResult n (result_of i) → IsNamedResult more (result_of (named_instr n i))
  result_named (Instr.Call result must_tail ty (Callee.Intrinsic Intrinsic.CoroBegin) args) h = longer
  result_named i h = result_more n more within (result_of i) h

  operands_same : (i : Instr) → operands_of (named_instr n i) ≡ operands_of i
  operands_same i = same_but_begin n operands_of (λ result must_tail ty args. refl) i

  locals_named : HasNamedLocals f → HasNamedLocals (with_begin n f)
  locals_named h = record {
    params = each_of_all (λ (p : Param). p.name < n) (λ (p : Param). p.name < more) (λ p lt. let le = within in omega (arith, lt, le)) f.params h.params;
    phis =
        each_of_map (named_block n) (λ (b : Block). EachOf (λ (p : Phi). p.result < n) b.phis) (λ (b : Block). EachOf (λ (p : Phi). p.result < more) b.phis)
        (λ b own. each_of_all (λ (p : Phi). p.result < n) (λ (p : Phi). p.result < more) (λ p lt. let le = within in omega (arith, lt, le)) b.phis own) f.blocks h.phis;
    results =
        each_of_map (named_block n) (λ (b : Block). EachOf (λ (i : Instr). IsNamedResult n (result_of i)) b.instrs) (λ (b : Block). EachOf (λ (i : Instr). IsNamedResult more (result_of i)) b.instrs)
        (λ b own. each_of_map (named_instr n) (λ (i : Instr). IsNamedResult n (result_of i)) (λ (i : Instr). IsNamedResult more (result_of i)) result_named b.instrs own) f.blocks h.results;
  }

  uses_named : HasNamedUses f → HasNamedUses (with_begin n f)
  uses_named h = record {
    operands =
        each_of_map (named_block n) (λ (b : Block). EachOf (λ (i : Instr). Each (IsNamed n) (operands_of i)) b.instrs) (λ (b : Block). EachOf (λ (i : Instr). Each (IsNamed more) (operands_of i)) b.instrs)
        (λ b own. each_of_map (named_instr n) (λ (i : Instr). Each (IsNamed n) (operands_of i)) (λ (i : Instr). Each (IsNamed more) (operands_of i)) (λ i k. subst (Each (IsNamed more)) (sym (operands_same i)) (operands_more n more within (operands_of i) k)) b.instrs own) f.blocks h.operands;
    incoming =
        each_of_map (named_block n) (λ (b : Block). EachOf (λ (p : Phi). EachOf (λ (i : Incoming). IsNamed n i.value) p.incoming) b.phis) (λ (b : Block). EachOf (λ (p : Phi). EachOf (λ (i : Incoming). IsNamed more i.value) p.incoming) b.phis)
        (λ b own. each_of_all (λ (p : Phi). EachOf (λ (i : Incoming). IsNamed n i.value) p.incoming) (λ (p : Phi). EachOf (λ (i : Incoming). IsNamed more i.value) p.incoming) (λ p k. each_of_all (λ (i : Incoming). IsNamed n i.value) (λ (i : Incoming). IsNamed more i.value) (λ i. operand_more n more within i.value) p.incoming k) b.phis own) f.blocks h.incoming;
    ends =
        each_of_map (named_block n) (λ (b : Block). Each (IsNamed n) (operands_of_term b.term)) (λ (b : Block). Each (IsNamed more) (operands_of_term b.term))
        (λ b own. operands_more n more within (operands_of_term b.term) own) f.blocks h.ends;
  }

-- what holds of a function and where begin's value gets a name holds of the function that the pass makes
by_naming : (P : Function → Type 0) (f : Function) → P f → P (with_begin (length f.names) f) → P (named_function f)
by_naming P f h k = on f.coroutine
  where
    named : (o : Option ℕ) → P (if_unnamed o f)
    named None = k
    named (Some v) = h

    on : (b : Bool) → P (if b then with_begin_name f else f)
    on true = named (first_result Intrinsic.CoroBegin f)
    on false = h

pub named_locals : (m : Module) → AreLocalsNamed m → AreLocalsNamed (named_module m)
named_locals m h func = subst HasNamedLocals (sym (function_there named_function mild m refl func)) (by_naming HasNamedLocals (function_at m func) (h func) (locals_named (function_at m func) (h func)))

pub named_uses : (m : Module) → AreUsesNamed m → AreUsesNamed (named_module m)
named_uses m h func = subst HasNamedUses (sym (function_there named_function mild m refl func)) (by_naming HasNamedUses (function_at m func) (h func) (uses_named (function_at m func) (h func)))

-- ---- uses of coro.frame become uses of begin's value

module _ (r : Renaming) (n : ℕ) (to : r.to < n) where
  renamed_named : (x : Operand) → IsNamed n x → IsNamed n (renamed r x)
  renamed_named (Operand.Local v) h = on (is_renamed r v)
    where
      on : (b : Bool) → (if b then r.to else v) < n
      on true = to
      on false = h
  renamed_named (Operand.Global name) h = tt
  renamed_named (Operand.Number z) h = tt
  renamed_named Operand.True h = tt
  renamed_named Operand.False h = tt
  renamed_named Operand.Null h = tt
  renamed_named Operand.None h = tt
  renamed_named Operand.Poison h = tt

  args_named : (args : List Arg) → Each (IsNamed n) (values_of args) → Each (IsNamed n) (values_of (map (renamed_arg r) args))
  args_named [] h = tt
  args_named (a ∷ args) h = (renamed_named a.value h.0, args_named args h.1)

  operands_named : (i : Instr) → Each (IsNamed n) (operands_of i) → Each (IsNamed n) (operands_of (renamed_instr r i))
  operands_named (Instr.Binary name op flags ty a b) h = (renamed_named a h.0, (renamed_named b h.1.0, tt))
  operands_named (Instr.Icmp name pred ty a b) h = (renamed_named a h.0, (renamed_named b h.1.0, tt))
  operands_named (Instr.Select name x a b) h = (renamed_named x h.0, (renamed_named a.value h.1.0, (renamed_named b.value h.1.1.0, tt)))
  operands_named (Instr.Cast name op nneg arg ty) h = (renamed_named arg.value h.0, tt)
  operands_named (Instr.Alloca name ty align) h = tt
  operands_named (Instr.Load name ty p align) h = (renamed_named p h.0, tt)
  operands_named (Instr.Store arg p align) h = (renamed_named arg.value h.0, (renamed_named p h.1.0, tt))
  operands_named (Instr.Gep name inbounds ty base indices) h = (renamed_named base h.0, args_named indices h.1)
  operands_named (Instr.Call result must_tail ty (Callee.Named name) args) h = args_named args h
  operands_named (Instr.Call result must_tail ty (Callee.Allocator a) args) h = args_named args h
  operands_named (Instr.Call result must_tail ty (Callee.Intrinsic i) args) h = args_named args h
  operands_named (Instr.Call result must_tail ty (Callee.Local v) args) h = (renamed_named (Operand.Local v) h.0, args_named args h.1)

  term_named : (t : Terminator) → Each (IsNamed n) (operands_of_term t) → Each (IsNamed n) (operands_of_term (renamed_term r t))
  term_named (Terminator.Jump label) h = tt
  term_named (Terminator.Branch x a b) h = (renamed_named x h.0, tt)
  term_named (Terminator.Switch arg default cases) h = (renamed_named arg.value h.0, h.1)
  term_named (Terminator.Ret None) h = tt
  term_named (Terminator.Ret (Some arg)) h = (renamed_named arg.value h.0, tt)
  term_named Terminator.Unreachable h = tt

  uses_renamed : (f : Function) → length f.names ≡ n → HasNamedUses f → HasNamedUses (renamed_coroutine r f)
  uses_renamed f is h =
      let old : ℕ = length f.names in
      record {
        operands =
            each_of_map (renamed_block r) (λ (b : Block). EachOf (λ (i : Instr). Each (IsNamed old) (operands_of i)) b.instrs) (λ (b : Block). EachOf (λ (i : Instr). Each (IsNamed old) (operands_of i)) b.instrs)
            (λ b own. each_of_map (renamed_instr r) (λ (i : Instr). Each (IsNamed old) (operands_of i)) (λ (i : Instr). Each (IsNamed old) (operands_of i)) (λ i k. subst (λ (l : ℕ). Each (IsNamed l) (operands_of (renamed_instr r i))) (sym is) (operands_named i (subst (λ (l : ℕ). Each (IsNamed l) (operands_of i)) is k))) b.instrs own) f.blocks h.operands;
        incoming =
            each_of_map (renamed_block r) (λ (b : Block). EachOf (λ (p : Phi). EachOf (λ (i : Incoming). IsNamed old i.value) p.incoming) b.phis) (λ (b : Block). EachOf (λ (p : Phi). EachOf (λ (i : Incoming). IsNamed old i.value) p.incoming) b.phis)
            (λ b own. each_of_map (renamed_phi r) (λ (p : Phi). EachOf (λ (i : Incoming). IsNamed old i.value) p.incoming) (λ (p : Phi). EachOf (λ (i : Incoming). IsNamed old i.value) p.incoming) (λ p k. each_of_map (renamed_incoming r) (λ (i : Incoming). IsNamed old i.value) (λ (i : Incoming). IsNamed old i.value) (λ i e. subst (λ (l : ℕ). IsNamed l (renamed r i.value)) (sym is) (renamed_named i.value (subst (λ (l : ℕ). IsNamed l i.value) is e))) p.incoming k) b.phis own) f.blocks h.incoming;
        ends =
            each_of_map (renamed_block r) (λ (b : Block). Each (IsNamed old) (operands_of_term b.term)) (λ (b : Block). Each (IsNamed old) (operands_of_term b.term))
            (λ b own. subst (λ (l : ℕ). Each (IsNamed l) (operands_of_term (renamed_term r b.term))) (sym is) (term_named b.term (subst (λ (l : ℕ). Each (IsNamed l) (operands_of_term b.term)) is own))) f.blocks h.ends;
      }

result_same : (r : Renaming) (i : Instr) → result_of (renamed_instr r i) ≡ result_of i
result_same r (Instr.Binary name op flags ty a b) = refl
result_same r (Instr.Icmp name pred ty a b) = refl
result_same r (Instr.Select name x a b) = refl
result_same r (Instr.Cast name op nneg arg ty) = refl
result_same r (Instr.Alloca name ty align) = refl
result_same r (Instr.Load name ty p align) = refl
result_same r (Instr.Store arg p align) = refl
result_same r (Instr.Gep name inbounds ty base indices) = refl
result_same r (Instr.Call result must_tail ty callee args) = refl

locals_renamed : (r : Renaming) (f : Function) → HasNamedLocals f → HasNamedLocals (renamed_coroutine r f)
locals_renamed r f h =
    let n : ℕ = length f.names in
    record {
      params = h.params;
      phis =
          each_of_map (renamed_block r) (λ (b : Block). EachOf (λ (p : Phi). p.result < n) b.phis) (λ (b : Block). EachOf (λ (p : Phi). p.result < n) b.phis)
          (λ b own. each_of_map (renamed_phi r) (λ (p : Phi). p.result < n) (λ (p : Phi). p.result < n) (λ p lt. lt) b.phis own) f.blocks h.phis;
      results =
          each_of_map (renamed_block r) (λ (b : Block). EachOf (λ (i : Instr). IsNamedResult n (result_of i)) b.instrs) (λ (b : Block). EachOf (λ (i : Instr). IsNamedResult n (result_of i)) b.instrs)
          (λ b own. each_of_map (renamed_instr r) (λ (i : Instr). IsNamedResult n (result_of i)) (λ (i : Instr). IsNamedResult n (result_of i)) (λ i k. subst (IsNamedResult n) (sym (result_same r i)) k) b.instrs own) f.blocks h.results;
    }

by_renaming : (P : Function → Type 0) (f : Function) → P f → (f.coroutine ≡ true → P (renamed_by_its_own f)) → P (renamed_function f)
by_renaming P f h k = on f.coroutine refl
  where
    on : (b : Bool) → f.coroutine ≡ b → P (if b then renamed_by_its_own f else f)
    on true e = k e
    on false e = h

pub renamed_locals : (m : Module) → AreLocalsNamed m → AreLocalsNamed (renamed_module m)
renamed_locals m h func =
    subst HasNamedLocals (sym (function_there renamed_function renaming_mild m refl func))
    (by_renaming HasNamedLocals (function_at m func) (h func) (λ e. locals_renamed (renaming_of (function_at m func)) (function_at m func) (h func)))

pub renamed_uses : (m : Module) → AllKeepRules m → AreUsesNamed m → AreUsesNamed (renamed_module m)
renamed_uses m rules h func =
    subst HasNamedUses (sym (function_there renamed_function renaming_mild m refl func))
    (by_renaming HasNamedUses (function_at m func) (h func) (λ e. uses_renamed (renaming_of (function_at m func)) (length (function_at m func).names) (rules func e).has_begin (function_at m func) refl (h func)))
