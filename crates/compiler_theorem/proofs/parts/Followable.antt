-- A module that is ready for splitting may be followed in its parts, where it has what rules don't say yet.
use Rattle.std.proofs.Common.{◌≡◌, inl, inr, ℕ, zero, suc, ◌+◌, Bool, true, false, List, [], ◌∷◌, Some, None, refl, sym, ap, ◌∙◌, subst}
use Rattle.std.proofs.lemmas.Option.{slice_get-map}
use Rattle.std.specs.Prelude.{Option, codes, map, option_map, slice_get, unwrap_or, if◌then◌else◌}
use Rattle.compiler_theorem.proofs.parts.Fields.{fields_found}
use Rattle.compiler.specs.cleanup.accepted.Ready.{IsReady}
use Rattle.compiler_theorem.specs.parts.Framed.{AreFramedFacts, AreLaidFacts, HaveFirstBlocks, HavePlainWidths, HaveTokens, IsLightBlock}
use Rattle.compiler.specs.flow_solver.Paths.{IsListed}
use Rattle.compiler.specs.frame_layout.declared.layout.Layout.{Layout}
use Rattle.compiler.specs.frame_layout.declared.layout.Layouts.{Layouts}
use Rattle.compiler.specs.ir_laws.facts.sound_states.Named.{AreLocalsNamed, HasNamedLocals}
use Rattle.compiler.specs.ir_base.declared.name.Name.{Name}
use Rattle.compiler.specs.ir_model.Names.{function_named, no_function, position_of}
use Rattle.compiler.specs.ir_model.Calls.{first_result, first_result_by}
use Rattle.compiler.specs.ir_model.declared.module.Block.{Block}
use Rattle.compiler.specs.ir_model.declared.module.Function.{Function}
use Rattle.compiler.specs.ir_model.declared.module.Module.{Module}
use Rattle.compiler.specs.ir_model.declared.operand.Intrinsic.{Intrinsic}
use Rattle.compiler.specs.pass_exits.ExitBlocks.{with_exit_blocks}
use Rattle.compiler.specs.pass_intrinsics.Shapes.{part_name, shape_of, suspends_of}
use Rattle.compiler.specs.pass_intrinsics.declared.shape.SuspendPoint.{SuspendPoint}
use Rattle.compiler.proofs.pass_proofs.exits.exited.Exited.{signatures_same}
use Rattle.compiler.proofs.pass_proofs.split.edges.Rules.{destroy_known, resume_known}
use Rattle.compiler.proofs.pass_proofs.split.exited.Exited.{splittable_exited}
use Rattle.compiler.specs.pass_proofs.exits.states.Exits.{exit_function, exits_split}
use Rattle.compiler.specs.pass_proofs.split.rules.Splittable.{IsSplittable}
use Rattle.compiler.specs.pass_split.Parts.{first_layout, layouts_after, other_layouts}
use Rattle.pass_split_proof.proofs.ready.Given.{own_ruler}
use Rattle.pass_split_proof.proofs.ready.Globals.{globals_kept}
use Rattle.pass_split_proof.proofs.ready.Layouts.{layouts_found, no_layouts}
use Rattle.pass_split_proof.proofs.ready.Moved.{cleanup_untaken, names_moved}
use Rattle.pass_split_proof.specs.code.Positions.{layout_at}
use Rattle.pass_split_proof.specs.ready.Layouts.{AreLayoutsOf}
use Rattle.pass_split_proof.specs.ready.Module.{IsFollowable}
use Rattle.pass_split_proof.specs.states.Memories.{AreContents}
use Rattle.pass_split_proof.specs.steps.Returns.{IsReturnBlock}
use Rattle.compiler.proofs.rule_laws.rules.function_rules.Signatures.{go_by_signatures}
use Rattle.compiler.proofs.rule_laws.rules.named_results.Named.{locals_tabled}
use Rattle.compiler.proofs.ir_laws.paths.uses.Paths.{place_of}
use Rattle.compiler.proofs.rule_laws.rules.source_rules.Locals.{own_label}
use Rattle.compiler.proofs.pass_proofs.split.edges.Cuttable.{HasBlock}
use Rattle.compiler.specs.rule_laws.frames.replaced.Parted.{IsSmall}
use Rattle.compiler.specs.rule_laws.frames.replaced.Splittable.{HasOwnEdges, IsLedToBy}
use Rattle.compiler.specs.rule_laws.frames.suspend_counts.Given.{IsGiven}
use Rattle.compiler.specs.rule_laws.rules.counted.Widths.{first_other_width}
use Rattle.compiler.specs.rule_laws.rules.function_rules.Kept.{KeepsFunctionRules}
use Rattle.compiler.specs.run_framed.Framed.{layout_of, no_layout}
use Rattle.compiler.specs.run_laws.changed.Changed.{Each}

-- ---- functions, one for one

pub record ComesExited (m : Module) (k : ℕ) (g : Function) : Type 0 where
  pub source : Function
  pub stands : slice_get m.functions k ≡ Some source
  pub is : exit_function source ≡ g

pub comes : (m : Module) (k : ℕ) (g : Function) → slice_get (exits_split m).functions k ≡ Some g → ComesExited m k g
comes m k g there = on (slice_get m.functions k) refl (sym (slice_get-map exit_function m.functions k) ∙ there)
  where
    on : (o : Option Function) → slice_get m.functions k ≡ o → option_map exit_function o ≡ Some g → ComesExited m k g
    on None e d = absurd (cc)
    on (Some f) e d = let same : exit_function f ≡ g = cc in record { source = f; stands = e; is = same }

pub same_kind : (f : Function) → (exit_function f).coroutine ≡ f.coroutine
same_kind f = on f.coroutine
  where
    on : (b : Bool) → (if b then with_exit_blocks f else f).coroutine ≡ f.coroutine
    on true = refl
    on false = refl

-- layouts go by functions alone
exited_layouts : (k : ℕ) (fs : List Function) (ls : List Layout) → AreLayoutsOf k fs ls
    → AreLayoutsOf k (map exit_function fs) ls
exited_layouts k [] [] h = tt
exited_layouts k [] (l ∷ ls) h = absurd h
exited_layouts k (f ∷ fs) [] h = (same_kind f ∙ h.0, exited_layouts (k + 1) fs [] h.1)
exited_layouts k (f ∷ fs) (l ∷ ls) (inl h) = inl (same_kind f ∙ h.0, exited_layouts (k + 1) fs (l ∷ ls) h.1)
exited_layouts k (f ∷ fs) (l ∷ ls) (inr h) = inr (same_kind f ∙ h.0, h.1, exited_layouts (k + 1) fs ls h.2)

-- a layout that isn't the module's is that of an index alone
first_given : (ls : List Layout) (fs : List Function) (k : ℕ) → IsGiven ls (layout_at ls fs k)
first_given ls [] k = by_first ls
  where
    by_first : (ls : List Layout) → IsGiven ls (first_layout ls)
    by_first [] = inr refl
    by_first (l ∷ ls) = inl (inl refl)
first_given ls (f ∷ fs) zero = by_first ls
  where
    by_first : (ls : List Layout) → IsGiven ls (first_layout ls)
    by_first [] = inr refl
    by_first (l ∷ ls) = inl (inl refl)
first_given ls (f ∷ fs) (suc k) = wider (layouts_after f ls) (first_given (layouts_after f ls) fs k)
    (after f.coroutine ls)
  where
    after : (b : Bool) (ls : List Layout) (l : Layout) → IsListed l (if b then other_layouts ls else ls)
        → IsListed l ls
    after false ls l h = h
    after true [] l h = absurd h
    after true (x ∷ ls) l h = inr h

    wider : (rest : List Layout) {l : Layout} → IsGiven rest l → ((x : Layout) → IsListed x rest → IsListed x ls)
        → IsGiven ls l
    wider rest {l} (inl h) more = inl (more l h)
    wider rest {l} (inr e) more = inr e

begun_first : (f : Function) (begin : ℕ) → first_result Intrinsic.CoroBegin f ≡ Some begin
    → (b : Block) × (slice_get f.blocks 0 ≡ Some b)
begun_first f begin e = on f.blocks refl
  where
    on : (bs : List Block) → f.blocks ≡ bs → (b : Block) × (slice_get f.blocks 0 ≡ Some b)
    on [] d = let none : None ≡ Some begin = sym (ap (first_result_by Intrinsic.CoroBegin) d) ∙ e in absurd (cc)
    on (b ∷ bs) d = (b, ap (λ (xs : List Block). slice_get xs 0) d)

-- ---- blocks behind suspends

return_block : (m : Module) (k : ℕ) (f : Function) → KeepsFunctionRules m k f → (label from : ℕ) → HasBlock f label
    → IsLedToBy f label from → IsLightBlock f label → IsReturnBlock f label
return_block m k f rules label from x led light =
    let at = place_of f.blocks x.block x.listed in
    let stands : position_of f label ≡ at.0 = ap (position_of f) (sym x.has_label)
    ∙ own_label k f rules.definitions at.0 x.block at.1 in
    let there : slice_get f.blocks (position_of f label) ≡ Some x.block = ap (slice_get f.blocks) stands ∙ at.1 in
    record {
      block = x.block;
      got = there;
      is_label = x.has_label;
      no_phis = led.phis (position_of f label) x.block there x.has_label;
      light = light.light;
      no_end = light.no_end;
    }

return_blocks : (m : Module) (k : ℕ) (f : Function) (begin : ℕ) → IsSplittable m k f begin
    → ((p : SuspendPoint) → IsListed p (suspends_of f) → IsLightBlock f p.resume × IsLightBlock f p.destroy)
    → (p : SuspendPoint) → IsListed p (suspends_of f) → IsReturnBlock f p.resume × IsReturnBlock f p.destroy
return_blocks m k f begin x light p l =
    let own = each_listed (HasOwnEdges f) (suspends_of f) x.edges p l in (
      return_block m k f x.rules p.resume p.block (resume_known m k f begin x (no_layout k) p l) own.resume (light p l).0,
      return_block m k f x.rules p.destroy p.block (destroy_known m k f begin x (no_layout k) p l) own.destroy (light p l).1,
    )
  where
    each_listed : {A : Type 0} (P : A → Type 0) (xs : List A) → Each P xs → (x : A) → IsListed x xs → P x
    each_listed P [] h x l = absurd l
    each_listed P (y ∷ ys) h x (inl e) = subst P (sym e) h.0
    each_listed P (y ∷ ys) h x (inr l) = each_listed P ys h.1 x l

module _ (ls : Layouts) (m : Module) (ready : IsReady ls m) where
  pub kept_there : (k : ℕ) (f : Function) → slice_get (exits_split m).functions k ≡ Some f
      → KeepsFunctionRules (exits_split m) k f
  kept_there k f there = on (comes m k f there)
    where
      by : (g : Function) (c : Bool) → g.coroutine ≡ c → slice_get m.functions k ≡ Some g
          → KeepsFunctionRules (exits_split m) k (if c then with_exit_blocks g else g)
      by g true e stands = go_by_signatures m (exits_split m) k (with_exit_blocks g) (signatures_same m)
          (ready.coroutines k g stands e).splittable.rules
      by g false e stands = go_by_signatures m (exits_split m) k g (signatures_same m) (ready.plain k g stands e).rules

      on : ComesExited m k f → KeepsFunctionRules (exits_split m) k f
      on x = subst (KeepsFunctionRules (exits_split m) k) x.is (by x.source x.source.coroutine refl x.stands)

module _ (ls : Layouts) (m : Module) (ready : IsReady ls m) (laid : AreLayoutsOf 0 m.functions ls.coroutines)
    (places : AreLaidFacts ls (exits_split m)) (contents : AreContents (exits_split m))
    (blocks : HaveFirstBlocks (exits_split m)) (plain_widths : HavePlainWidths (exits_split m))
    (tokens : HaveTokens (exits_split m)) (facts : AreFramedFacts ls (exits_split m)) where
  rules : (k : ℕ) (f : Function) → slice_get (exits_split m).functions k ≡ Some f
      → KeepsFunctionRules (exits_split m) k f
  rules = kept_there ls m ready

  layouts : AreLayoutsOf 0 (exits_split m).functions ls.coroutines
  layouts = exited_layouts 0 m.functions ls.coroutines laid

  locals_kept : AreLocalsNamed (exits_split m)
  locals_kept k = on (slice_get (exits_split m).functions k) refl
    where
      on : (o : Option Function) → slice_get (exits_split m).functions k ≡ o → HasNamedLocals (unwrap_or o no_function)
      on None e = record { params = tt; phis = tt; results = tt }
      on (Some f) e = locals_tabled k f (rules k f e).tabled

  -- what a coroutine with blocks on edges comes from
  record ComesFrom (k : ℕ) (f : Function) : Type 0 where
    source : Function
    stands : slice_get m.functions k ≡ Some source
    coroutine : source.coroutine ≡ true
    is : with_exit_blocks source ≡ f

  coroutine_comes : (k : ℕ) (f : Function) → slice_get (exits_split m).functions k ≡ Some f → f.coroutine ≡ true
      → ComesFrom k f
  coroutine_comes k f there c =
      let x = comes m k f there in
      let own : x.source.coroutine ≡ true = sym (same_kind x.source) ∙ ap (λ (g : Function). g.coroutine) x.is ∙ c in
      record {
        source = x.source;
        stands = x.stands;
        coroutine = own;
        is = sym (ap (λ (b : Bool). if b then with_exit_blocks x.source else x.source) own) ∙ x.is;
      }

  splittable : (k : ℕ) (f : Function) → ComesFrom k f → (begin : ℕ) × IsSplittable (exits_split m) k f begin
  splittable k f x =
      let r = ready.coroutines k x.source x.stands x.coroutine in (
        r.begin,
        subst (λ (g : Function). IsSplittable (exits_split m) k g r.begin) x.is
            (splittable_exited m k (with_exit_blocks x.source) r.begin r.splittable),
      )

  -- begin stands in a block
  first_blocks : (k : ℕ) (f : Function) → slice_get (exits_split m).functions k ≡ Some f → (c : Bool) → f.coroutine ≡ c
      → (b : Block) × (slice_get f.blocks 0 ≡ Some b)
  first_blocks k f there false c = blocks k f there c
  first_blocks k f there true c = let y = splittable k f (coroutine_comes k f there c) in begun_first f y.0 y.1.named

  all_widths : (k : ℕ) (f : Function) → slice_get (exits_split m).functions k ≡ Some f → (c : Bool) → f.coroutine ≡ c
      → first_other_width k f ≡ None
  all_widths k f there false c = plain_widths k f there c
  all_widths k f there true c = facts.widths k f there c

  pub followable : IsFollowable ls (exits_split m)
  followable = record {
    partable = record {
      named = locals_kept;
      coroutines = λ k f there c.
          let x = coroutine_comes k f there c in
          let y = splittable k f x in
          let z = facts.coroutines k f there c in
          record {
            begin = y.0;
            splittable = y.1;
            returns = return_blocks (exits_split m) k f y.0 y.1 z.returns;
            saved = (tokens k f there c).saved;
            layout = layouts_found ls.coroutines (exits_split m).functions layouts k f there c;
            laid = (places k f there c).laid;
          };
      plain = λ k f there c. rules k f there;
      blocks = λ k f there. first_blocks k f there f.coroutine refl;
      globals = globals_kept ls m ready.items ready.short;
      contents = contents;
    };
    ruler = own_ruler (exits_split m);
    names = names_moved ls m ready.items ready.short;
    fields = λ k f there block at name inbounds ty base indices e.
        fields_found (exits_split m) k f (rules k f there) block at name inbounds ty base indices e
        (facts.fields k f there block at name inbounds ty base indices e);
    widths = λ k f there. all_widths k f there f.coroutine refl;
    coroutines = λ k f there c.
        let x = coroutine_comes k f there c in
        let z = facts.coroutines k f there c in
        let r = ready.coroutines k x.source x.stands x.coroutine in
        let given = subst (IsGiven ls.coroutines) (sym (layouts_found ls.coroutines (exits_split m).functions layouts
        k f
        there c)) (first_given ls.coroutines (exits_split m).functions k) in
        record {
          small = subst (λ (g : Function). IsSmall (shape_of g (layout_of ls.coroutines k))) x.is
              (r.small (layout_of ls.coroutines k) given);
          promise = (places k f there c).promise;
          apart = z.apart;
          named = (tokens k f there c).named;
          leads = z.leads;
          untaken = ap (λ (n : Name). function_named (exits_split m) (part_name n (codes ".cleanup")))
              (ap (λ (g : Function). g.name) (sym x.is))
              ∙ cleanup_untaken ls m ready.items ready.short k x.source x.stands x.coroutine;
        };
    plain = λ k f there c. no_layouts ls.coroutines (exits_split m).functions layouts k f there c;
  }
