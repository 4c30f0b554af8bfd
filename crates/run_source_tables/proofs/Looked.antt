-- What is found in the tables of a source program.
use Rattle.std.proofs.Common.{◌≡◌, ℕ, zero, suc, ◌+◌, ◌<◌, Bool, true, false, List, [], ◌∷◌, ◌++◌, length, get_or, refl, ap, sym, subst, ◌∙◌, length-append, Option, Some, None, Ok, Err, inl, inr}
use Rattle.std.specs.Prelude.{Result, IfErr, OnOk, filter, slice_get, unwrap_or, ◌==◌, ◌⊎◌}
use Rattle.std.proofs.lemmas.Option.{slice_get-get_or}
use Rattle.std.specs.List.{list_any}
use Rattle.ir_model.specs.Names.{function_at, no_function}
use Rattle.ir_model.specs.declared.module.Function.{Function}
use Rattle.ir_model.specs.declared.module.Module.{Module}
use Rattle.ir_paths.specs.Slots.{promise_of}
use Rattle.ir_paths.specs.Windows.{leaves}
use Rattle.ir_paths.specs.declared.point.Facts.{Facts}
use Rattle.ir_paths.specs.declared.point.Point.{Point}
use Rattle.run_source_tables.specs.Given.{has_final}
use Rattle.run_source_tables.specs.Given.{facts_at}
use Rattle.run_source_tables.specs.Tables.{HaveSourceTables, IsSourceTableOf}
use Rattle.run_source_tables.specs.declared.table.SourceTable.{SourceTable}
use Rattle.run_source_tables.proofs.MarkTables.{any-flip, none-left}

pub promise-is : (m : Module) (facts : List Facts) (tables : List SourceTable) (func : ℕ) (f : Function) (t : SourceTable) → HaveSourceTables m.functions facts tables → slice_get m.functions func ≡ Some f → slice_get tables func ≡ Some t → t.promise ≡ promise_of (function_at m func)
promise-is m facts tables func f t h gf gt = (h.each func f t gf gt).promise ∙ ap (λ (o : Option Function). promise_of (unwrap_or o no_function)) (sym gf)

pub final-is : (m : Module) (facts : List Facts) (tables : List SourceTable) (func : ℕ) (f : Function) (t : SourceTable) → HaveSourceTables m.functions facts tables → slice_get m.functions func ≡ Some f → slice_get tables func ≡ Some t → t.has_final ≡ has_final (function_at m func)
final-is m facts tables func f t h gf gt = (h.each func f t gf gt).has_final ∙ ap (λ (o : Option Function). has_final (unwrap_or o no_function)) (sym gf)

pub ramp-is : (m : Module) (facts : List Facts) (tables : List SourceTable) (func alloca : ℕ) (f : Function) (t : SourceTable) (mark : Bool) → HaveSourceTables m.functions facts tables → slice_get m.functions func ≡ Some f → slice_get tables func ≡ Some t → slice_get t.ramp_slots alloca ≡ Some mark → mark ≡ list_any (λ a. a == alloca) (facts_at facts func).ramp_slots
ramp-is m facts tables func alloca f t mark h gf gt gm = (h.each func f t gf gt).ramp_slots alloca mark gm ∙ any-flip alloca (facts_at facts func).ramp_slots

pub left-none : (m : Module) (facts : List Facts) (tables : List SourceTable) (func block : ℕ) (f : Function) (t : SourceTable) (mark : Bool) → HaveSourceTables m.functions facts tables → slice_get m.functions func ≡ Some f → slice_get tables func ≡ Some t → slice_get t.windows block ≡ Some mark → (p q : Point) → p.block ≡ block → mark ≡ false → filter (λ w. leaves p q w) (facts_at facts func).windows ≡ []
left-none m facts tables func block f t mark h gf gt gm p q at none =
    none-left p q (facts_at facts func).windows
    (ap (λ n. list_any (λ w. list_any (λ r. n == r.block) w.inside) (facts_at facts func).windows) at
    ∙ sym ((h.each func f t gf gt).windows block mark gm) ∙ none)

-- ---- the tables of all functions

some-same : {A : Type 0} {x y : A} → Some x ≡ Some y → x ≡ y
some-same e = cc

slice_get-push : {A : Type 0} (xs : List A) (v : A) (i : ℕ) (w : A) → slice_get (xs ++ v ∷ []) i ≡ Some w → ((i ≡ length xs) × (w ≡ v)) ⊎ (slice_get xs i ≡ Some w)
slice_get-push [] v zero w h = inl (refl, cc)
slice_get-push [] v (suc i) w h = absurd cc
slice_get-push (x ∷ xs) v zero w h = inr h
slice_get-push (x ∷ xs) v (suc i) w h = elim (slice_get-push xs v i w h) [ inl p ↦ inl (ap suc p.0, p.1) | inr q ↦ inr q ]

abbrev pub HasEach : List Function → List Facts → List SourceTable → Type 0
HasEach functions facts tables = (func : ℕ) (f : Function) (table : SourceTable) → slice_get functions func ≡ Some f → slice_get tables func ≡ Some table → IsSourceTableOf f (facts_at facts func).windows (facts_at facts func).ramp_slots table

pub each-more : (functions : List Function) (facts : List Facts) (at : ℕ) (tables next : List SourceTable) (function : Function) (table : SourceTable) → at < length functions → function ≡ get_or functions at function → length tables ≡ at → next ≡ tables ++ table ∷ [] → IsSourceTableOf function (facts_at facts at).windows (facts_at facts at).ramp_slots table → HasEach functions facts tables → HasEach functions facts next
each-more functions facts at tables next function table lt is len e has h func f t gf gt =
    let gt' : slice_get (tables ++ table ∷ []) func ≡ Some t = ap (λ (l : List SourceTable). slice_get l func) (sym e) ∙ gt in
    elim (slice_get-push tables table func t gt') [
      | inl p ↦
          let at-is : func ≡ at = p.0 ∙ len in
          let got : slice_get functions func ≡ Some function = ap (slice_get functions) at-is ∙ slice_get-get_or functions at function lt ∙ ap Some (sym is) in
          let same : function ≡ f = some-same (sym got ∙ gf) in
          let own : IsSourceTableOf function (facts_at facts func).windows (facts_at facts func).ramp_slots t =
          subst (λ n. IsSourceTableOf function (facts_at facts n).windows (facts_at facts n).ramp_slots t) (sym at-is) (subst (λ (u : SourceTable). IsSourceTableOf function (facts_at facts at).windows (facts_at facts at).ramp_slots u) (sym p.1) has) in
          subst (λ (g : Function). IsSourceTableOf g (facts_at facts func).windows (facts_at facts func).ramp_slots t) same own
      | inr q ↦ h func f t gf q
    ]

pub length-more : {A : Type 0} (xs next : List A) (x : A) (at : ℕ) → length xs ≡ at → next ≡ xs ++ x ∷ [] → length next ≡ at + 1
length-more xs next x at e is = ap length is ∙ length-append xs (x ∷ []) ∙ ap (λ n. n + 1) e
