-- Coroutines whose frames callers give free them when they are destroyed, in the framed form too.
use Rattle.std.proofs.Common.{◌≡◌, ℕ, true, false, List, refl, sym, ap, ◌∙◌, subst}
use Rattle.std.proofs.lemmas.Bool.{false≢true}
use Rattle.std.specs.Prelude.{None, Option, Some, slice_get, unwrap_or}
use Rattle.compiler_theorem.proofs.compiler.ir_laws.facts.Truth.{not_both}
use Rattle.compiler_theorem.proofs.compiler.pass_proofs.early.elision.early.Laws.{sites_of_source}
use Rattle.compiler_theorem.proofs.compiler.pass_proofs.frames.unnamed.Positions.{Becomes, FramedBy, Unchanged, stands_as}
use Rattle.compiler_theorem.proofs.compiler.rule_laws.rules.known_labels.Known.{labels_known}
use Rattle.compiler_theorem.proofs.compiler.rule_laws.rules.sources.Tables.{all_tabled}
use Rattle.compiler_theorem.proofs.compiler.rule_laws.texts.named_texts.Placed.{locals_named, uses_named}
use Rattle.compiler_theorem.proofs.compiler.whole.lowered_sources.Sources.{early_rules}
use Rattle.compiler_theorem.specs.compiler.ir_base.declared.outcome.Place.{Place}
use Rattle.compiler_theorem.specs.compiler.ir_model.Names.{function_at, function_named, no_function}
use Rattle.compiler_theorem.specs.compiler.ir_model.declared.instr.Instr.{Instr}
use Rattle.compiler_theorem.specs.compiler.ir_model.declared.module.Module.{Module}
use Rattle.compiler_theorem.specs.compiler.ir_paths.declared.point.Point.{Point}
use Rattle.compiler_theorem.specs.compiler.ir_model.declared.module.Function.{Function}
use Rattle.compiler_theorem.specs.compiler.rule_laws.rules.function_rules.Kept.{KeepsFunctionRules}
use Rattle.compiler_theorem.specs.theorem.Lowered.{IsLowered, Lowered, early}
use Rattle.pass_elide_ready.specs.elide_sites.Destroyed.{FreesWhenDestroyed}
use Rattle.pass_elide_ready.specs.elide_sites.Elidable.{IsElidable}
use Rattle.pass_elide_ready.specs.elide_sites.Sites.{AreSites, callee_in}
use Rattle.pass_elide_ready.specs.pass_elide.declared.given.GivenFrame.{GivenFrame}
use Rattle.pass_elide_framed.proofs.Plain.{framed_at, framed_named, none_early}
use Rattle.pass_elide_framed.proofs.SameWays.{same_ways}
use Rattle.pass_elide_ready.specs.pass_elide_proof.Elision.{Elision, function_in}
use Rattle.pass_elide_ready.specs.pass_elide_proof.Invariant.{IsSiteOf}
use Rattle.pass_elide_ready.proofs.SitesKept.{callee_elidable}
use Rattle.pass_elide_ready.proofs.EdgeWays.{freed_by_ways, freed_over_edges}
use Rattle.compiler_theorem.specs.compiler.pass_edges.EdgeBlocks.{with_edge_blocks}

module _ (l : Lowered) (low : IsLowered l) where
  freed_by : (k : ℕ) (f g : Function) → slice_get (early l).functions k ≡ Some f
      → Becomes (early l) l.layouts.coroutines f g → f.coroutine ≡ true → FreesWhenDestroyed f → FreesWhenDestroyed g
  freed_by k f _ there (Unchanged plain) c h = absurd (not_both f.coroutine plain c)
  freed_by k f g there (FramedBy taken _ marked framed) c h =
      let rules : KeepsFunctionRules (early l) k f =
      early_rules l.text l.source low.source.stands low.source.accepted k f there in
      freed_by_ways (with_edge_blocks f) g (same_ways l low k f there c taken g framed)
      (freed_over_edges f (labels_known k f rules.tabled (early l) rules.known) h)

  pub framed_freed : (func : ℕ) → (function_at (early l) func).coroutine ≡ true
      → FreesWhenDestroyed (function_at (early l) func) → FreesWhenDestroyed (function_at l.framed func)
  framed_freed func c h = on (slice_get l.framed.functions func) refl
    where
      on : (o : Option Function) → slice_get l.framed.functions func ≡ o
          → FreesWhenDestroyed (unwrap_or o no_function)
      on None e =
          let none : (function_at (early l) func).coroutine ≡ false =
          ap (λ (o : Option Function). (unwrap_or o no_function).coroutine) (none_early l low func e) in
          absurd (false≢true (sym none ∙ c))
      on (Some g) e =
          let x = stands_as (early l) l.layouts.coroutines low.is_framed.functions.count (early l).functions
          l.framed.functions low.is_framed.functions.framed func g e in
          let own : function_at (early l) func ≡ x.source =
          ap (λ (o : Option Function). unwrap_or o no_function) x.stands in
          freed_by func x.source g x.stands x.becomes (sym (ap (λ (f : Function). f.coroutine) own) ∙ c)
          (subst FreesWhenDestroyed own h)

  -- sites of the source are those of what the first pass makes of it
  pub sites_early : (sites : List Place) → AreSites l.source sites → AreSites (early l) sites
  sites_early sites are = (sites_of_source l.source low.source.accepted (all_tabled l.text l.source low.source.stands)
      (locals_named l.text l.source low.source.stands) (uses_named l.text l.source low.source.stands) sites).0 are

  -- ---- callees of sites

  module _ (e : Elision) (same : e.code ≡ l.framed) (sites : AreSites l.source e.sites) where
    pub callee_freed : (func callee : ℕ) (call : Point) (i : Instr) (name : ℕ) → IsSiteOf e func call i name
        → callee_in e.code (Some i) ≡ Some callee → FreesWhenDestroyed (function_in e callee)
    callee_freed func callee call i name s is =
        subst FreesWhenDestroyed (sym (ap (λ (m : Module). function_at m callee) same))
        (framed_freed callee elidable.coroutine elidable.destroyed)
      where
        elidable : IsElidable (function_at (early l) callee)
        elidable = callee_elidable e (early l) (sites_early e.sites sites)
            (λ k plain. ap (λ (m : Module). function_at m k) same
            ∙ framed_at l low k plain) func call i s.plain s.there
            (GivenFrame.Alloca s.size s.align) s.room
            (λ n. ap (λ (m : Module). function_named m n) same ∙ framed_named l low n) callee is
