-- A path leads from each save of a framed form to its suspend, as one leads in the source.
use Rattle.std.proofs.Common.{◌≡◌, ◌⊎◌, inl, inr, ⊎_elim, ℕ, zero, suc, ◌+◌, ◌<◌, ◌≤◌, Bool, true, false, List, [], ◌∷◌, length, refl, sym, ap, ◌∙◌, subst, arith}
use Rattle.std.proofs.lemmas.Bool.{cases_eq, cases_lt, false≢true}
use Rattle.std.proofs.lemmas.Option.{slice_get-map, slice_get_within}
use Rattle.std.specs.List.{list_any}
use Rattle.std.specs.Prelude.{None, Option, Some, if◌then◌else◌, is_some, map, option_and_then, option_map, slice_get, ◌&&◌, ◌==◌, ◌||◌}
use Rattle.compiler.proofs.whole.exit_sources.Accepted.{exits_kept}
use Rattle.compiler.specs.cleanup.accepted.Ready.{IsReady}
use Rattle.compiler_theorem.proofs.parts.Apart.{edged_is}
use Rattle.compiler_theorem.proofs.parts.Chain.{StaysCalled}
use Rattle.compiler_theorem.proofs.parts.Followable.{comes, same_kind}
use Rattle.compiler_theorem.proofs.parts.FramedTokens.{framed_have_tokens, in_form}
use Rattle.compiler_theorem.proofs.parts.Returned.{called}
use Rattle.compiler_theorem.proofs.parts.Saved.{tokens_named}
use Rattle.compiler_theorem.proofs.parts.Taken.{first_same, front_ones, has_one, no_alloca_passes, one_passes, passed, passes, same_ones, save_told, suspend_told}
use Rattle.compiler_theorem.proofs.parts.Ways.{Edge, More, Reaches, blocks_on, path_on, reaches_same, way_of, within}
use Rattle.compiler_theorem.specs.theorem.Lowered.{IsLowered, Lowered, early}
use Rattle.compiler.specs.flow_solver.Paths.{IsListed}
use Rattle.compiler.specs.frame_layout.declared.layout.Layout.{Layout}
use Rattle.compiler.proofs.frame_slots.Points.{where_complete}
use Rattle.compiler.proofs.ir_laws.facts.Truth.{and_first, and_second, not_both}
use Rattle.compiler.proofs.ir_laws.paths.renamed.Uses.{StandsIn, stands_in}
use Rattle.compiler.proofs.ir_laws.paths.threaded.Threads.{IsOver, LeadsForth, between, ended}
use Rattle.compiler.specs.ir_model.Names.{is_local, position_of}
use Rattle.compiler.specs.ir_model.declared.instr.Instr.{Instr}
use Rattle.compiler.specs.ir_model.declared.module.Block.{Block}
use Rattle.compiler.specs.ir_model.declared.module.Function.{Function}
use Rattle.compiler.specs.ir_model.declared.operand.Callee.{Callee}
use Rattle.compiler.specs.ir_model.declared.operand.Intrinsic.{Intrinsic}
use Rattle.compiler.specs.ir_model.declared.operand.Operand.{Operand}
use Rattle.compiler.proofs.ir_paths.Search.{eq_from, eq_itself}
use Rattle.compiler.specs.ir_paths.Paths.{Leads, has_point, targets}
use Rattle.compiler.specs.ir_paths.Windows.{call_result, instr_at, instr_in, is_call_of, is_suspend_of, points_where, suspend_of}
use Rattle.compiler.specs.ir_paths.declared.point.Point.{Point}
use Rattle.compiler.specs.pass_edges.EdgeBlocks.{with_edge_blocks}
use Rattle.compiler.specs.pass_exits.ExitBlocks.{with_exit_blocks}
use Rattle.compiler.specs.pass_frames.Framed.{IsFramedCoroutine, celled, copied, layout_at, placed}
use Rattle.compiler.specs.pass_front.Front.{with_allocas_first}
use Rattle.compiler.proofs.pass_kept_proof.Rules.{suspend_is_suspend}
use Rattle.compiler.specs.pass_kept_proof.SuspendRules.{IsCallAt, KeepsSuspendRules}
use Rattle.compiler.proofs.pass_proofs.early.save_simulation.Suspending.{fetch_at}
use Rattle.compiler.proofs.pass_proofs.edges.paths.Points.{IsMovedFrom, map_has}
use Rattle.compiler.proofs.pass_proofs.exits.rules.Places.{spot}
use Rattle.compiler.proofs.pass_proofs.exits.rules.Threaded.{moves, threaded}
use Rattle.compiler.proofs.pass_proofs.exits.states.Points.{instr_moved, moved, points_moved, suspend_moved}
use Rattle.compiler.proofs.pass_proofs.frames.numbers.Numbers.{number_given}
use Rattle.compiler.proofs.pass_proofs.frames.unnamed.Positions.{Becomes, FramedBy, StandsAs, Unchanged, stands_as}
use Rattle.compiler.proofs.pass_proofs.kept.sources.Whole.{split_keeps}
use Rattle.compiler.specs.pass_proofs.exits.states.Exits.{KeepsExits, exits_split}
use Rattle.compiler.proofs.rule_laws.rules.sources.Places.{instr_there, point}
use Rattle.compiler.proofs.rule_laws.rules.threaded.Threads.{IsThreaded}
use Rattle.compiler.proofs.rule_laws.rules.uses.Switched.{switched}
use Rattle.compiler.specs.rule_shape.Switches.{wrong_switch}
use Rattle.compiler.specs.run_step.Step.{AtInstr, fetch}

-- ---- tests of saves by what they give, and of suspends by what they take

abbrev is_token : ℕ → Option ℕ → Bool
is_token v None = false
is_token v (Some u) = u == v

abbrev gives : ℕ → Option ℕ → Operand → Bool
gives v r o = is_token v r

abbrev takes : ℕ → Option ℕ → Operand → Bool
takes v r o = is_local v o

abbrev gives_token : ℕ → Instr → Bool
gives_token v = passes Intrinsic.CoroSave save_told (gives v)

abbrev takes_token : ℕ → Instr → Bool
takes_token v = passes Intrinsic.CoroSuspend suspend_told (takes v)

token_is : (v : ℕ) (r : Option ℕ) → is_token v r ≡ true → r ≡ Some v
token_is v None e = absurd (false≢true e)
token_is v (Some u) e = ap Some (eq_from u v e)

-- the suspend of a save that gives a token
suspend_by : (f : Function) (p : Point) (i : Instr) (v : ℕ) → instr_at f p ≡ Some i → call_result i ≡ Some v
    → suspend_of f p ≡ slice_get (points_where (takes_token v) f) 0
suspend_by f p i v e r =
    ap (λ (o : Option ℕ). slice_get (points_where (is_suspend_of o) f) 0)
    (ap (option_and_then call_result) e ∙ r)

-- ---- functions whose blocks have the same calls

record SameTokens (f g : Function) : Type 0 where
  gives_same : (v : ℕ) → map (has_one (gives_token v)) g.blocks ≡ map (has_one (gives_token v)) f.blocks
  takes_same : (v : ℕ) → map (has_one (takes_token v)) g.blocks ≡ map (has_one (takes_token v)) f.blocks
  ways : map way_of g.blocks ≡ map way_of f.blocks

-- a save in a block
record HasSave (f : Function) (block v : ℕ) : Type 0 where
  at : ℕ
  call : IsCallAt Intrinsic.CoroSave f (point block at)
  result : call_result call.instr ≡ Some v

any_at : (test : Instr → Bool) (is : List Instr) → list_any test is ≡ true
    → (at : ℕ) × ((i : Instr) × ((slice_get is at ≡ Some i) × (test i ≡ true)))
any_at test [] e = absurd (false≢true e)
any_at test (i ∷ is) e = on (any_at test is) (test i) refl e
  where
    on : (list_any test is ≡ true → (at : ℕ) × ((j : Instr) × ((slice_get is at ≡ Some j) × (test j ≡ true))))
        → (t : Bool) → test i ≡ t → (t || list_any test is) ≡ true
        → (at : ℕ) × ((j : Instr) × ((slice_get (i ∷ is) at ≡ Some j) × (test j ≡ true)))
    on again true d k = (0, (i, (refl, d)))
    on again false d k = let x = again k in (suc x.0, x.1)

at_any : (test : Instr → Bool) (is : List Instr) (at : ℕ) (i : Instr) → slice_get is at ≡ Some i → test i ≡ true
    → list_any test is ≡ true
at_any test [] at i e t = absurd (cc)
at_any test (j ∷ is) zero i e t =
    let same : j ≡ i = cc in ap (λ (b : Bool). b || list_any test is) (ap test same ∙ t)
at_any test (j ∷ is) (suc at) i e t = on (test j) (at_any test is at i e t)
  where
    on : (b : Bool) → list_any test is ≡ true → (b || list_any test is) ≡ true
    on true k = refl
    on false k = k

module _ (f g : Function) (same : SameTokens f g) where
  -- a save of the one has one of the other in its block
  save_home : (block v at : ℕ) (b : Block) (i : Instr) → slice_get g.blocks block ≡ Some b
      → slice_get b.instrs at ≡ Some i → gives_token v i ≡ true → HasSave f block v
  save_home block v at b i got stands is = on (slice_get f.blocks block) refl both
    where
      both : option_map (has_one (gives_token v)) (slice_get f.blocks block) ≡ Some true
      both =
          sym (slice_get-map (has_one (gives_token v)) f.blocks block)
          ∙ sym (ap (λ (bs : List Bool). slice_get bs block) (same.gives_same v))
          ∙ slice_get-map (has_one (gives_token v)) g.blocks block
          ∙ ap (option_map (has_one (gives_token v))) got ∙ ap Some (at_any (gives_token v) b.instrs at i stands is)

      on : (o : Option Block) → slice_get f.blocks block ≡ o → option_map (has_one (gives_token v)) o ≡ Some true
          → HasSave f block v
      on None d h = absurd (cc)
      on (Some c) d h =
          let some : has_one (gives_token v) c ≡ true = cc in
          let x = any_at (gives_token v) c.instrs some in
          let both = x.1.1.1 in
          let call = and_first (is_call_of Intrinsic.CoroSave x.1.0) (is_token v (call_result x.1.0)) both in
          let result = and_second (is_call_of Intrinsic.CoroSave x.1.0) (is_token v (call_result x.1.0)) both in
          let there : instr_at f (point block x.0) ≡ Some x.1.0 =
          ap (λ (o : Option Block). instr_in o x.0) d ∙ x.1.1.0 in
          record {
            at = x.0;
            call = record { instr = x.1.0; stands = fetch_at f (point block x.0) x.1.0 there; is = call };
            result = token_is v (call_result x.1.0) result;
          }

  -- where a path leads from each save of the one to its suspend, blocks lead so in the other
  blocks_lead : KeepsSuspendRules f → (p s : Point) (b : Block) (i : Instr) (v : ℕ) → slice_get g.blocks p.block ≡ Some b
      → slice_get b.instrs p.at ≡ Some i → gives_token v i ≡ true
      → slice_get (points_where (takes_token v) g) 0 ≡ Some s → (p.block ≡ s.block) ⊎ Reaches g p.block s.block
  blocks_lead rules p s b i v got stands is first =
      let x = save_home p.block v p.at b i got stands is in
      let y = first_same (takes_token v) g f (sym (same.takes_same v)) s first in
      let there = instr_there f p.block x.at x.call.instr x.call.stands in
      let pair : suspend_of f (point p.block x.at) ≡ Some y.point =
      suspend_by f (point p.block x.at) x.call.instr v there x.result ∙ y.is_first in
      ⊎_elim
      (λ (a : (p.block ≡ y.point.block) × (x.at < y.point.at)). inl (a.0 ∙ y.is_block))
      (λ (r : Reaches f p.block y.point.block).
      inr (reaches_same f g same.ways p.block s.block (subst (Reaches f p.block) y.is_block r)))
      (blocks_on f (point p.block x.at) y.point (rules.leads (point p.block x.at) y.point x.call pair))

-- ---- with blocks on the edges that leave windows

module _ (f : Function) (ways : IsThreaded f (with_exit_blocks f) (moves f)) where
  abbrev x : Function
  x = with_exit_blocks f

  module _ (k : ℕ) (b : Block) (t : ℕ) (got : slice_get f.blocks k ≡ Some b) (listed : IsListed t (targets b.term)) where
    z : LeadsForth f (with_exit_blocks f) (moves f) k b t
    z = ways.forth k b t got listed

    own : slice_get (with_exit_blocks f).blocks (spot f k) ≡ Some (ended b ((moves f).term k b))
    own = ways.there k b got

    old : position_of (with_exit_blocks f) t ≡ spot f (position_of f t)
    old = ways.old k b t got listed

    over : IsOver f (with_exit_blocks f) (moves f) k t z.label
        → Reaches (with_exit_blocks f) (position_of (with_exit_blocks f) z.label) (position_of (with_exit_blocks f) t)
    over o = Edge (position_of (with_exit_blocks f) z.label) (between z.label t) t o.got (inl refl)

    edge_forth : Reaches (with_exit_blocks f) (spot f k) (spot f (position_of f t))
    edge_forth = subst (Reaches (with_exit_blocks f) (spot f k)) old (⊎_elim
        (λ (e : z.label ≡ t).
        Edge (spot f k) (ended b ((moves f).term k b)) t own
        (subst (λ (n : ℕ). IsListed n (targets ((moves f).term k b))) e z.named))
        (λ (o : IsOver f (with_exit_blocks f) (moves f) k t z.label).
        More (spot f k) (ended b ((moves f).term k b)) z.label (position_of (with_exit_blocks f) t) own z.named (over o))
        z.way)

  reaches_join : (k l j : ℕ) → Reaches x k l → Reaches x l j → Reaches x k j
  reaches_join k _ j (Edge _ b t got listed) r = More k b t j got listed r
  reaches_join k l j (More _ b t _ got listed r) s =
      More k b t j got listed (reaches_join (position_of x t) l j r s)

  reaches_forth : (k j : ℕ) → Reaches f k j → Reaches (with_exit_blocks f) (spot f k) (spot f j)
  reaches_forth k _ (Edge _ b t got listed) = edge_forth k b t got listed
  reaches_forth k j (More _ b t _ got listed r) =
      reaches_join (spot f k) (spot f (position_of f t)) (spot f j) (edge_forth k b t got listed)
      (reaches_forth (position_of f t) j r)

-- ---- points in a function whose suspends end their blocks

never_both : (i : Instr) → is_call_of Intrinsic.CoroSave i ≡ true → is_call_of Intrinsic.CoroSuspend i ≡ true → ⊥
never_both (Instr.Call r must_tail ty callee args) a b = on callee a b
  where
    on : (c : Callee) → is_call_of Intrinsic.CoroSave (Instr.Call r must_tail ty c args) ≡ true
        → is_call_of Intrinsic.CoroSuspend (Instr.Call r must_tail ty c args) ≡ true → ⊥
    on (Callee.Intrinsic Intrinsic.CoroSave) a b = false≢true b
    on (Callee.Intrinsic Intrinsic.CoroSuspend) a b = false≢true a
    on _ a b = false≢true a
never_both _ a b = false≢true a

module _ (k : ℕ) (x : Function) (coroutine : x.coroutine ≡ true) (switches : wrong_switch k x ≡ None) (p s : Point)
    (save : IsCallAt Intrinsic.CoroSave x p) (suspend : IsCallAt Intrinsic.CoroSuspend x s) where
  save_in : StandsIn x p save.instr
  save_in = stands_in x p save.instr (instr_there x p.block p.at save.instr save.stands)

  suspend_in : StandsIn x s suspend.instr
  suspend_in = stands_in x s suspend.instr (instr_there x s.block s.at suspend.instr suspend.stands)

  last : s.at + 1 ≡ length suspend_in.block.instrs
  last = (switched k x coroutine switches s.block s.at suspend_in.block suspend.instr suspend_in.got suspend_in.stands
      suspend.is).last

  apart : p.block ≡ s.block → p.at ≡ s.at → ⊥
  apart block at =
      let both : Some save.instr ≡ Some suspend.instr =
      sym (instr_there x p.block p.at save.instr save.stands) ∙ (λ j. instr_at x (point (block j) (at j)))
      ∙ instr_there x s.block s.at suspend.instr suspend.stands in
      let same : save.instr ≡ suspend.instr = cc in
      never_both suspend.instr (sym (ap (is_call_of Intrinsic.CoroSave) same) ∙ save.is) suspend.is

  -- a save in a suspend's block stands before it
  before : p.block ≡ s.block → p.at < s.at
  before block =
      let both : Some save_in.block ≡ Some suspend_in.block =
      sym save_in.got ∙ ap (slice_get x.blocks) block ∙ suspend_in.got in
      let same : save_in.block ≡ suspend_in.block = cc in
      let lengths : length save_in.block.instrs ≡ length suspend_in.block.instrs =
      ap (λ (b : Block). length b.instrs) same in
      let lt = slice_get_within save_in.block.instrs p.at save.instr save_in.stands in
      let end = last in
      let other = apart block in
      ⊎_elim (λ (e : p.at ≡ s.at). absurd (other e))
      (λ (n : p.at ≡ s.at → ⊥). below p.at s.at (length suspend_in.block.instrs) end (omega (arith, lt, lengths)) n)
      (cases_eq p.at s.at)
    where
      below : (a b n : ℕ) → b + 1 ≡ n → a < n → (a ≡ b → ⊥) → a < b
      below a b n e lt other = ⊎_elim (λ (h : a < b). h)
          (λ (h : b ≤ a). absurd (other (omega (arith, e, lt, h)))) (cases_lt a b)

  low : s.at ≤ length suspend_in.block.instrs
  low = let end = last in omega (arith, end)

  -- so a path leads to the suspend where its block is that of the save, or where blocks lead there
  pub points_lead : (p.block ≡ s.block) ⊎ Reaches x p.block s.block → Leads x [] p s
  points_lead (inl block) =
      subst (λ (n : ℕ). Leads x [] (point n p.at) s) (sym block)
      (within x s.block suspend_in.block suspend_in.got p.at s.at (before block) low)
  points_lead (inr r) = path_on x p.block s.block r p.at s in_block front
    where
      in_block : (b : Block) → slice_get x.blocks p.block ≡ Some b → p.at ≤ length b.instrs
      in_block b got =
          let both : Some save_in.block ≡ Some b = sym save_in.got ∙ got in
          let same : save_in.block ≡ b = cc in
          let lengths : length save_in.block.instrs ≡ length b.instrs = ap (λ (c : Block). length c.instrs) same in
          let lt = slice_get_within save_in.block.instrs p.at save.instr save_in.stands in
          omega (arith, lt, lengths)

      front : (point s.block 0 ≡ s) ⊎ Leads x [] (point s.block 0) s
      front = ⊎_elim
          (λ (e : 0 ≡ s.at). inl (ap (point s.block) e))
          (λ (n : 0 ≡ s.at → ⊥).
          inr (within x s.block suspend_in.block suspend_in.got 0 s.at (some s.at n) low))
          (cases_eq 0 s.at)
        where
          some : (n : ℕ) → (0 ≡ n → ⊥) → 0 < n
          some zero h = absurd (h refl)
          some (suc n) h = omega arith

-- ---- framed forms of accepted sources

front_ways : (bs : List Block) → map way_of (with_allocas_first bs) ≡ map way_of bs
front_ways [] = refl
front_ways (b ∷ bs) = refl

module _ (l : Lowered) (low : IsLowered l) where
  module _ (k : ℕ) (f : Function) (there : slice_get (early l).functions k ≡ Some f) (coroutine : f.coroutine ≡ true)
    where
      edged_keeps : KeepsSuspendRules (with_edge_blocks f)
      edged_keeps = subst KeepsSuspendRules (edged_is l low k f there coroutine)
          (split_keeps l.text l.source low.source.stands low.source.accepted k)

      same_tokens : (taken : ℕ) (g : Function) → IsFramedCoroutine (early l) (layout_at l.layouts.coroutines taken) f g
          → SameTokens (with_edge_blocks f) g
      same_tokens taken g h = subst (SameTokens (with_edge_blocks f)) (sym h.is) (record {
        gives_same = λ v.
            front_ones (gives_token v) (no_alloca_passes Intrinsic.CoroSave save_told (gives v)) built.blocks
            ∙ same_ones (gives_token v) (passed Intrinsic.CoroSave save_told (gives v))
            (one_passes Intrinsic.CoroSave save_told (gives v)) (with_edge_blocks f).blocks built.blocks stays.calls;
        takes_same = λ v.
            front_ones (takes_token v) (no_alloca_passes Intrinsic.CoroSuspend suspend_told (takes v)) built.blocks
            ∙ same_ones (takes_token v) (passed Intrinsic.CoroSuspend suspend_told (takes v))
            (one_passes Intrinsic.CoroSuspend suspend_told (takes v)) (with_edge_blocks f).blocks built.blocks stays.calls;
        ways = front_ways built.blocks ∙ stays.ways;
      })
        where
          lay : Layout
          lay = layout_at l.layouts.coroutines taken

          built : Function
          built = placed lay f h.contents (copied f h.contents (celled (early l) f h.contents) h.before)

          stays : StaysCalled (with_edge_blocks f) built
          stays = called l low k f there coroutine lay (number_given l.layouts.coroutines taken) g h

  abbrev LeadBlocks : Function → Type 0
  LeadBlocks g = (p s : Point) (b : Block) (i : Instr) (v : ℕ) → slice_get g.blocks p.block ≡ Some b
      → slice_get b.instrs p.at ≡ Some i → gives_token v i ≡ true
      → slice_get (points_where (takes_token v) g) 0 ≡ Some s → (p.block ≡ s.block) ⊎ Reaches g p.block s.block

  by_form : (k : ℕ) (f g : Function) → slice_get (early l).functions k ≡ Some f
      → Becomes (early l) l.layouts.coroutines f g → g.coroutine ≡ true → LeadBlocks g
  by_form k f _ there (Unchanged plain) c = absurd (not_both f.coroutine plain c)
  by_form k f g there (FramedBy taken _ marked framed) c =
      blocks_lead (with_edge_blocks f) g (same_tokens k f there marked taken g framed)
      (edged_keeps k f there marked)

  -- so a path leads from each save of a coroutine of the form to its suspend
  pub form_leads : (k : ℕ) (g : Function) → slice_get l.framed.functions k ≡ Some g → g.coroutine ≡ true
      → (p s : Point) → IsCallAt Intrinsic.CoroSave g p → suspend_of g p ≡ Some s → Leads g [] p s
  form_leads k g there marked p s c pair =
      on (call_result c.instr) refl
      (tokens_named l.framed k g kept.rules (in_form l low k form.source g form.stands form.becomes marked) p.block p.at
      c.instr c.stands c.is)
    where
      kept : KeepsExits l.framed k g
      kept = exits_kept l.text l.source low.source.stands low.source.accepted l.share l.layouts low.laid l.framed
          low.is_framed k g there marked

      form : StandsAs (early l) l.layouts.coroutines (early l).functions k g
      form = stands_as (early l) l.layouts.coroutines low.is_framed.functions.count (early l).functions
          l.framed.functions low.is_framed.functions.framed k g there

      here : instr_at g p ≡ Some c.instr
      here = instr_there g p.block p.at c.instr c.stands

      block_in : StandsIn g p c.instr
      block_in = stands_in g p c.instr here

      token : (v : ℕ) → call_result c.instr ≡ Some v → gives_token v c.instr ≡ true
      token v result = (λ j. c.is j && is_token v (result j)) ∙ eq_itself v

      on : (o : Option ℕ) → call_result c.instr ≡ o → is_some (call_result c.instr) ≡ true → Leads g [] p s
      on None e some = let no : false ≡ true = sym (ap is_some e) ∙ some in absurd (cc)
      on (Some v) e some =
          points_lead k g marked kept.switches p s c (suspend_is_suspend g p s pair)
          (by_form k form.source g form.stands form.becomes marked p s block_in.block c.instr v block_in.got
          block_in.stands (token v e) (sym (suspend_by g p c.instr v here e) ∙ pair))

  module _ (ready : IsReady l.layouts l.framed) where
    exited_leads : (k : ℕ) (g : Function) → slice_get l.framed.functions k ≡ Some g → g.coroutine ≡ true
        → (p s : Point) (v : ℕ) (c : IsCallAt Intrinsic.CoroSave (with_exit_blocks g) p) → call_result c.instr ≡ Some v
        → suspend_of (with_exit_blocks g) p ≡ Some s → Leads (with_exit_blocks g) [] p s
    exited_leads k g there marked p s v c result pair =
        points_lead k x marked (ready.coroutines k g there marked).splittable.switches p s c
        (suspend_is_suspend x p s pair)
        (subst (λ (q : Point). (q.block ≡ s.block) ⊎ Reaches x q.block s.block) (sym home.is)
        (subst (λ (q : Point). (spot g home.point.block ≡ q.block) ⊎ Reaches x (spot g home.point.block) q.block)
        (sym target.1.1) moved_ways))
      where
        x : Function
        x = with_exit_blocks g

        save_there : has_point (points_where (is_call_of Intrinsic.CoroSave) (with_exit_blocks g)) p ≡ true
        save_there = where_complete (is_call_of Intrinsic.CoroSave) (with_exit_blocks g) p c.instr
            (instr_there (with_exit_blocks g) p.block p.at c.instr c.stands) c.is

        home : IsMovedFrom (moved g) (points_where (is_call_of Intrinsic.CoroSave) g) p
        home = map_has (moved g) (points_where (is_call_of Intrinsic.CoroSave) g) p
            (subst (λ (ps : List Point). has_point ps p ≡ true) (points_moved g (is_call_of Intrinsic.CoroSave)) save_there)

        here : instr_at g home.point ≡ Some c.instr
        here =
            sym (instr_moved g home.point) ∙ ap (instr_at (with_exit_blocks g)) (sym home.is)
            ∙ instr_there (with_exit_blocks g) p.block p.at c.instr c.stands

        -- its suspend
        target : (q : Point) × ((suspend_of g home.point ≡ Some q) × (s ≡ moved g q))
        target = on (suspend_of g home.point) refl
            (sym (suspend_moved g home.point) ∙ ap (suspend_of (with_exit_blocks g)) (sym home.is) ∙ pair)
          where
            on : (o : Option Point) → suspend_of g home.point ≡ o → option_map (moved g) o ≡ Some s
                → (q : Point) × ((suspend_of g home.point ≡ Some q) × (s ≡ moved g q))
            on None e h = absurd (cc)
            on (Some q) e h = let same : moved g q ≡ s = cc in (q, (e, sym same))

        stands : StandsIn g home.point c.instr
        stands = stands_in g home.point c.instr here

        token : gives_token v c.instr ≡ true
        token = (λ j. c.is j && is_token v (result j)) ∙ eq_itself v

        form : StandsAs (early l) l.layouts.coroutines (early l).functions k g
        form = stands_as (early l) l.layouts.coroutines low.is_framed.functions.count (early l).functions
            l.framed.functions low.is_framed.functions.framed k g there

        kept : KeepsExits l.framed k g
        kept = exits_kept l.text l.source low.source.stands low.source.accepted l.share l.layouts low.laid l.framed
            low.is_framed k g there marked

        ways : (home.point.block ≡ target.0.block) ⊎ Reaches g home.point.block target.0.block
        ways = by_form k form.source g form.stands form.becomes marked home.point target.0 stands.block c.instr v
            stands.got stands.stands token
            (sym (suspend_by g home.point c.instr v here result) ∙ target.1.0)

        moved_ways : (spot g home.point.block ≡ spot g target.0.block)
            ⊎ Reaches (with_exit_blocks g) (spot g home.point.block) (spot g target.0.block)
        moved_ways = ⊎_elim (λ (e : home.point.block ≡ target.0.block). inl (ap (spot g) e))
            (λ (r : Reaches g home.point.block target.0.block).
            inr (reaches_forth g (threaded l.framed k g kept.rules kept.jumps) home.point.block target.0.block r))
            ways

    pub framed_leads : (k : ℕ) (h : Function) → slice_get (exits_split l.framed).functions k ≡ Some h
        → h.coroutine ≡ true → (p s : Point) → IsCallAt Intrinsic.CoroSave h p → suspend_of h p ≡ Some s
        → Leads h [] p s
    framed_leads k h there c =
        let y = comes l.framed k h there in
        let own : y.source.coroutine ≡ true = sym (same_kind y.source) ∙ ap (λ (g : Function). g.coroutine) y.is ∙ c in
        let is : with_exit_blocks y.source ≡ h =
        sym (ap (λ (b : Bool). if b then with_exit_blocks y.source else y.source) own) ∙ y.is in
        subst (λ (g : Function). (p s : Point) → IsCallAt Intrinsic.CoroSave g p → suspend_of g p ≡ Some s → Leads g [] p s)
        is (of_source y.source y.stands own is)
      where
        of_source : (g : Function) → slice_get l.framed.functions k ≡ Some g → g.coroutine ≡ true
            → with_exit_blocks g ≡ h → (p s : Point) → IsCallAt Intrinsic.CoroSave (with_exit_blocks g) p
            → suspend_of (with_exit_blocks g) p ≡ Some s → Leads (with_exit_blocks g) [] p s
        of_source g stands own is p s save pair = on (call_result save.instr) refl
            (subst (λ (f : Function). fetch f p.block p.at ≡ AtInstr save.instr → is_some (call_result save.instr) ≡ true)
            (sym is) (λ e. (framed_have_tokens l low ready k h there c).named p.block p.at save.instr e save.is) save.stands)
          where
            on : (o : Option ℕ) → call_result save.instr ≡ o → is_some (call_result save.instr) ≡ true
                → Leads (with_exit_blocks g) [] p s
            on None e some = let no : false ≡ true = sym (ap is_some e) ∙ some in absurd (cc)
            on (Some v) e some = exited_leads k g stands own p s v save e pair
