-- Where runs agree, the lowered run follows the source's from each callable entry.
use Rattle.std.proofs.Common.{◌≡◌, ◌∙◌, ℕ, ℤ, Bool, true, false, List, [], ◌∷◌, map, Option, Some, None, refl, sym, ap, subst}
use Rattle.std.specs.Prelude.{◌&&◌, not, slice_get, unwrap_or}
use Rattle.std.specs.List.{AllByRecursion}
use Rattle.cli_compare.specs.Agreeing.{AreRunsFollowed, MayBeCompared}
use Rattle.cli_compare.specs.Compared.{counterpart}
use Rattle.cli_runs.specs.cli_entries.Entries.{call_at, call_if, call_of, entry_call, entry_named, has_int_result, is_entry, with_word, word_as, words_for}
use Rattle.cli_runs.specs.Runs.{sizes_of}
use Rattle.cli_runs.specs.cli_entries.declared.verdict.EntryCall.{EntryCall}
use Rattle.cli_words.specs.declared.words.RunWords.{RunWords}
use Rattle.compiler.specs.declared.lowered.Lowered.{Lowered}
use Rattle.compiler.proofs.ir_laws.facts.same_names.Lists.{what_is_found}
use Rattle.compiler_theorem.specs.run_types.Fitting.{FitParams, FitsType}
use Rattle.compiler_theorem.specs.theorem.Entries.{IsCallable, IsEntry, IsIntegerParam, Run}
use Rattle.compiler_theorem.specs.theorem.Texts.{AgreeInRuns}
use Rattle.ir_base.specs.declared.outcome.Word.{Word}
use Rattle.ir_model.specs.Names.{function_at, function_named, no_function, same_name}
use Rattle.ir_model.specs.Ty.{Ty, array, int, named, ptr, structure, token}
use Rattle.ir_model.specs.declared.module.Function.{Function}
use Rattle.ir_model.specs.declared.module.Module.{Module}
use Rattle.ir_model.specs.declared.module.Param.{Param}
use Rattle.ir_tables.proofs.Tables.{same_name-same}
use Rattle.run_ints.proofs.Widths.{IsWordOf-word_of}
use Rattle.run_ints.specs.Numbers.{word_of}
use Rattle.run_memory.specs.declared.pointer.Value.{Value}

-- ---- arguments

-- parameters are integers, and words of their widths fit them
record AreTaken (ps : List Param) (ws : List Word) : Type 0 where
  pub integers : AllByRecursion IsIntegerParam ps
  pub fit : FitParams ps (map Value.Int ws)

one_more : (p : Param) (ps : List Param) (z : ℤ) (rest : Option (List Word))
    → ((ws : List Word) → rest ≡ Some ws → AreTaken ps ws) → (ty : Ty) → p.ty ≡ ty → (ws : List Word)
    → with_word (word_as ty z) rest ≡ Some ws → AreTaken (p ∷ ps) ws
one_more p ps z (Some rest) more (int w) is ws e =
    let k : AreTaken ps rest = more rest refl in
    let same : word_of w z ∷ rest ≡ ws = cc in
    subst (AreTaken (p ∷ ps)) same (record {
      integers = ((w, is), k.integers);
      fit = (subst (λ (t : Ty). FitsType t (Value.Int (word_of w z))) (sym is) (IsWordOf-word_of w z), k.fit);
    })
one_more p ps z None more (int w) is ws e = absurd (cc)
one_more p ps z rest more ptr is ws e = absurd (cc)
one_more p ps z rest more token is ws e = absurd (cc)
one_more p ps z rest more (array n t) is ws e = absurd (cc)
one_more p ps z rest more (structure ts) is ws e = absurd (cc)
one_more p ps z rest more (named n) is ws e = absurd (cc)

taken : (ps : List Param) (zs : List ℤ) (ws : List Word) → words_for ps zs ≡ Some ws → AreTaken ps ws
taken [] [] ws e = let same : [] ≡ ws = cc in subst (AreTaken []) same (record { integers = tt; fit = tt })
taken [] (z ∷ zs) ws e = absurd (cc)
taken (p ∷ ps) [] ws e = absurd (cc)
taken (p ∷ ps) (z ∷ zs) ws e = one_more p ps z (words_for ps zs) (λ more d. taken ps zs more d) p.ty refl ws e

-- ---- callable entries

-- the function of a call is there, it is no coroutine, and takes the arguments
record IsCalled (m : Module) (call : EntryCall) : Type 0 where
  pub function : Function
  pub there : slice_get m.functions call.func ≡ Some function
  pub plain : function.coroutine ≡ false
  pub taken : AreTaken function.params call.args

no_coroutine : (c b : Bool) → (not c && b) ≡ true → c ≡ false
no_coroutine true b e = absurd (cc)
no_coroutine false b e = refl

called_if : (m : Module) (func : ℕ) (f : Function) → slice_get m.functions func ≡ Some f → (zs : List ℤ) (entry : Bool)
    → is_entry f ≡ entry → (words : Option (List Word)) → words_for f.params zs ≡ words → (call : EntryCall)
    → call_if entry func words ≡ Some call → IsCalled m call
called_if m func f there zs false entry words is call e = absurd (cc)
called_if m func f there zs true entry None is call e = absurd (cc)
called_if m func f there zs true entry (Some words) is call e =
    let same : record { func = func; args = words } ≡ call = cc in
    subst (IsCalled m) same (record {
      function = f;
      there = there;
      plain = no_coroutine f.coroutine (has_int_result f.result) entry;
      taken = taken f.params zs words is;
    })

called_at : (m : Module) (zs : List ℤ) (named : Option ℕ) (call : EntryCall) → call_at m named zs ≡ Some call
    → IsCalled m call
called_at m zs None call e = absurd (cc)
called_at m zs (Some func) call e = on (slice_get m.functions func) refl e
  where
    on : (o : Option Function) → slice_get m.functions func ≡ o → call_of func o zs ≡ Some call → IsCalled m call
    on None there d = absurd (cc)
    on (Some f) there d = called_if m func f there zs (is_entry f) refl (words_for f.params zs) refl call d

-- ---- the runs

module _ (l : Lowered) (w : RunWords) (agree : AgreeInRuns l.source (sizes_of l.layouts) l.«module») where
  from_call : (call : EntryCall) → IsCalled l.source call → MayBeCompared l w call
  from_call call c = record {
    each = λ other is. record {
      each = λ n fine.
          let f = (agree.each run other (entry other is) fits).runs.prefix n fine in (f.steps, f.follows);
    };
  }
    where
      run : Run
      run = record { entry = call.func; args = call.args; answers = w.answers }

      named_so : (other : ℕ) → counterpart l.«module» (slice_get l.source.functions call.func) ≡ Some other
          → function_named l.«module» c.function.name ≡ Some other
      named_so other is = ap (counterpart l.«module») (sym c.there) ∙ is

      entry : (other : ℕ) → counterpart l.«module» (slice_get l.source.functions call.func) ≡ Some other
          → IsEntry l.source l.«module» call.func other
      entry other is =
          let found = what_is_found (λ (g : Function). same_name g.name c.function.name) l.«module».functions other (named_so other is) in
          record {
            callable = record {
              function = c.function;
              there = c.there;
              plain = c.plain;
              integers = c.taken.integers;
            };
            counterpart = found.element;
            is = found.stands;
            name = same_name-same _ _ found.passes;
          }

      at : function_at l.source call.func ≡ c.function
      at = ap (λ (o : Option Function). unwrap_or o no_function) c.there

      fits : FitParams (function_at l.source call.func).params (map Value.Int call.args)
      fits = subst (λ (f : Function). FitParams f.params (map Value.Int call.args)) (sym at) c.taken.fit

  pub may_be_compared : (call : EntryCall) → entry_call l.source w.entry w.args ≡ Some call → MayBeCompared l w call
  may_be_compared call e = from_call call (called_at l.source w.args (entry_named l.source w.entry) call e)
