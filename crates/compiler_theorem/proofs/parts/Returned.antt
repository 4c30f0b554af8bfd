-- Blocks behind suspends of a framed form begin with what is one step of a part, and end in jumps.
use Rattle.std.proofs.Common.{◌≡◌, ◌⊎◌, inl, inr, ⊎_elim, ℕ, zero, suc, ◌+◌, Bool, true, false, List, [], ◌∷◌, ◌++◌, length, refl, sym, ap, ◌∙◌, subst}
use Rattle.std.specs.Prelude.{None, Option, Some, if◌then◌else◌, slice_get, ◌||◌, ◌==◌}
use Rattle.compiler.proofs.whole.lowered_sources.Sources.{early_named, early_others, early_rules, early_wide}
use Rattle.compiler.proofs.whole.exit_sources.Accepted.{exits_kept}
use Rattle.compiler_theorem.proofs.parts.Chain.{StaysCalled, built_called}
use Rattle.compiler_theorem.proofs.parts.Followable.{comes, kept_there, same_kind}
use Rattle.compiler_theorem.proofs.parts.Light.{HasReturn, IsLight, behind_one as one_more, framed_return, in_rest, no_block}
use Rattle.compiler_theorem.specs.parts.Framed.{IsLightBlock}
use Rattle.compiler_theorem.specs.theorem.Lowered.{IsLowered, Lowered, early}
use Rattle.compiler.specs.cleanup.accepted.Ready.{IsReady}
use Rattle.compiler.specs.flow_solver.Paths.{IsListed}
use Rattle.compiler.specs.frame_classes.declared.class.SlotClass.{SlotClass}
use Rattle.compiler.specs.frame_layout.declared.layout.Layout.{Layout}
use Rattle.compiler.proofs.ir_laws.facts.Truth.{equal_numbers, not_both}
use Rattle.compiler.specs.ir_laws.paths.rows.Returns.{IsOwnBlock}
use Rattle.compiler.specs.ir_model.Names.{position_of}
use Rattle.compiler.specs.ir_model.declared.instr.Instr.{Instr}
use Rattle.compiler.specs.ir_model.declared.instr.Terminator.{Terminator}
use Rattle.compiler.specs.ir_model.declared.module.Block.{Block}
use Rattle.compiler.specs.ir_model.declared.module.Function.{Function}
use Rattle.compiler.specs.ir_model.declared.module.Module.{Module}
use Rattle.compiler.specs.pass_edges.EdgeBlocks.{with_edge_blocks}
use Rattle.compiler.specs.pass_exits.ExitBlocks.{blocks_by, exit_blocks, exit_label, exit_term, with_exit_blocks, with_exits}
use Rattle.compiler.specs.pass_exits.Exits.{block_exits, mark_of}
use Rattle.compiler.specs.pass_exits.declared.exit.Exit.{Exit}
use Rattle.compiler.specs.pass_frames.Framed.{IsFramedCoroutine, celled, copied, layout_at, placed}
use Rattle.compiler.specs.pass_frames.Tables.{class_flags}
use Rattle.compiler.specs.pass_intrinsics.Shapes.{is_end, suspends_of}
use Rattle.compiler.specs.pass_intrinsics.declared.shape.SuspendPoint.{SuspendPoint}
use Rattle.compiler.proofs.pass_proofs.early.named_sources.BeginNames.{HasBeginName}
use Rattle.compiler.proofs.pass_proofs.edges.rules.Kept.{suspend_blocks}
use Rattle.compiler.proofs.pass_proofs.exits.rules.Suspends.{same_suspends as same_exited}
use Rattle.compiler.proofs.pass_proofs.frames.numbers.Numbers.{all_near, number_given}
use Rattle.compiler.proofs.pass_proofs.frames.rules.Built.{passes_fit}
use Rattle.compiler.proofs.pass_proofs.frames.shape.Fits.{cells_fit}
use Rattle.compiler.proofs.pass_proofs.frames.slots_behind.Behind.{blocks_behind}
use Rattle.compiler.proofs.pass_proofs.frames.unnamed.Positions.{Becomes, FramedBy, Unchanged, stands_as}
use Rattle.compiler.specs.pass_proofs.cells.rules.Asked.{AreCellsFor}
use Rattle.compiler.specs.pass_proofs.exits.states.Exits.{exits_split}
use Rattle.compiler.specs.pass_proofs.frames.rules.Buildable.{IsBuildable}
use Rattle.compiler.specs.pass_proofs.frames.shape.Passes.{PassesFit}
use Rattle.pass_split_proof.specs.states.Related.{is_return_label, weight}
use Rattle.compiler.proofs.rule_laws.frames.front_rules.Shape.{same_suspends as same_front}
use Rattle.compiler.proofs.rule_laws.rules.source_rules.Locals.{own_label}
use Rattle.compiler.specs.rule_laws.frames.rows.Returns.{HaveOwnReturns, return_labels}
use Rattle.compiler.specs.rule_laws.frames.suspend_counts.Given.{IsGiven}
use Rattle.compiler.specs.rule_laws.rules.function_rules.Kept.{KeepsFunctionRules}
use Rattle.compiler.specs.rule_laws.rules.path_rules.Paths.{KeepsPaths}
use Rattle.compiler.specs.rule_laws.rules.path_rules.Shape.{KeepsShape}
use Rattle.compiler.specs.run_laws.changed.Changed.{Each}
use Rattle.compiler.specs.run_step.Step.{AtInstr, fetch_in, fetch_or}

-- a block with the label that isn't the first
abbrev IsReturned : Function → ℕ → Type 0
IsReturned g l = (at : ℕ) × HasReturn l g.blocks (suc at)

-- ---- labels behind suspends

labels_listed : (ps : List SuspendPoint) (p : SuspendPoint) → IsListed p ps
    → IsListed p.resume (return_labels ps) × IsListed p.destroy (return_labels ps)
labels_listed [] p l = absurd l
labels_listed (x ∷ ps) p (inl e) = (inl (ap (λ (y : SuspendPoint). y.resume) e), inr (inl (ap (λ (y : SuspendPoint). y.destroy) e)))
labels_listed (x ∷ ps) p (inr l) = let r = labels_listed ps p l in (inr (inr r.0), inr (inr r.1))

-- a label that is told to be one is that of a suspend
record IsBehindOne (ps : List SuspendPoint) (l : ℕ) : Type 0 where
  point : SuspendPoint
  listed : IsListed point ps
  is_one : (l ≡ point.resume) ⊎ (l ≡ point.destroy)

behind_one : (ps : List SuspendPoint) (l : ℕ) → is_return_label ps l ≡ true → IsBehindOne ps l
behind_one [] l e = absurd (cc)
behind_one (p ∷ ps) l e = on (behind_one ps l) (l == p.resume) (l == p.destroy) refl refl e
  where
    more : IsBehindOne ps l → IsBehindOne (p ∷ ps) l
    more x = record { point = x.point; listed = inr x.listed; is_one = x.is_one }

    on : (is_return_label ps l ≡ true → IsBehindOne ps l) → (a b : Bool) → (l == p.resume) ≡ a
        → (l == p.destroy) ≡ b → ((a || b) || is_return_label ps l) ≡ true → IsBehindOne (p ∷ ps) l
    on again true b x y k = record { point = p; listed = inl refl; is_one = inl (equal_numbers l p.resume x) }
    on again false true x y k = record { point = p; listed = inl refl; is_one = inr (equal_numbers l p.destroy y) }
    on again false false x y k = more (again k)

-- ---- where edges have blocks

own_return : (f : Function) (l : ℕ) → IsOwnBlock f l → (position_of f l ≡ 0 → ⊥) → IsReturned f l
own_return f l x other = on (position_of f l) refl
  where
    on : (n : ℕ) → position_of f l ≡ n → IsReturned f l
    on zero e = absurd (other e)
    on (suc at) e = (
      at,
      record {
        block = x.block;
        there = ap (slice_get f.blocks) (sym e) ∙ x.got;
        is_label = x.is_label;
        light = subst (Each IsLight) (sym x.no_instrs) tt;
        next = x.next;
        jump = x.jump;
      },
    )

-- ---- blocks on edges that leave windows

module _ (f : Function) (l : ℕ) where
  exits_behind : (es : List Exit) (n : ℕ) (bs : List Block) (at : ℕ)
      → HasReturn l bs at → (to : ℕ) × HasReturn l (exit_blocks n es ++ bs) to
  exits_behind [] n bs at h = (at, h)
  exits_behind (e ∷ es) n bs at h =
      let x = exits_behind es (n + 1) bs at h in
      (suc x.0, one_more x.1)

  exited_return : (at n : ℕ) (bs : List Block) (k : ℕ) → HasReturn l bs k
      → (to : ℕ) × HasReturn l (blocks_by f at n bs) to
  exited_return at n [] k h = absurd (no_block h)
  exited_return at n (b ∷ bs) zero h =
      let same : b ≡ h.block = cc in (
        0,
        record {
          block = with_exits f at n b;
          there = refl;
          is_label = (λ i. (same i).label) ∙ h.is_label;
          light = subst (λ (x : Block). Each IsLight x.instrs) (sym same) h.light;
          next = exit_label n (mark_of f at h.next) h.next;
          jump = ap (exit_term f at n) ((λ i. (same i).term) ∙ h.jump);
        },
      )
  exited_return at n (b ∷ bs) (suc k) h =
      let own = block_exits f at b in
      let x = exited_return (at + 1) (n + length own) bs k (in_rest h) in
      let y = exits_behind own n (blocks_by f (at + 1) (n + length own) bs) x.0 x.1 in
      (suc y.0, one_more y.1)

  pub exits_return : (k : ℕ) → HasReturn l f.blocks k → (to : ℕ) × HasReturn l (with_exit_blocks f).blocks to
  exits_return k h = exited_return 0 (length f.names) f.blocks k h

-- ---- a light block begins with one step

light_first : (f : Function) (label : ℕ) (b : Block) (next : ℕ) → slice_get f.blocks (position_of f label) ≡ Some b
    → Each IsLight b.instrs → b.term ≡ Terminator.Jump next → IsLightBlock f label
light_first f label b next got light jump = record {
  light = ap (λ (o : Option Block). weight (fetch_in o 0)) got ∙ first b.instrs light;
  no_end = λ i e is. none b.instrs light i (sym (ap (λ (o : Option Block). fetch_in o 0) got) ∙ e) is;
}
  where
    one : (i : Instr) → IsLight i → weight (AtInstr i) ≡ 1
    one (Instr.Gep r inbounds ty base indices) h = refl
    one (Instr.Binary r op flags ty a b) h = refl
    one (Instr.Icmp r pred ty a b) h = refl
    one (Instr.Select r c a b) h = refl
    one (Instr.Cast r op nneg arg to) h = refl
    one (Instr.Load r ty p align) h = refl
    one (Instr.Store arg p align) h = refl
    one (Instr.Alloca r ty align) h = absurd h
    one (Instr.Call r must_tail ty callee args) h = absurd h

    first : (is : List Instr) → Each IsLight is → weight (fetch_or (slice_get is 0) (0 == length is) b.term) ≡ 1
    first [] h = ap (λ (t : Terminator). weight (fetch_or None true t)) jump
    first (i ∷ is) h = one i h.0

    no_call : (i : Instr) → IsLight i → is_end i ≡ true → ⊥
    no_call (Instr.Call r must_tail ty callee args) h e = h
    no_call (Instr.Alloca r ty align) h e = h
    no_call (Instr.Gep r inbounds ty base indices) h e = absurd (cc)
    no_call (Instr.Binary r op flags ty a b) h e = absurd (cc)
    no_call (Instr.Icmp r pred ty a b) h e = absurd (cc)
    no_call (Instr.Select r c a b) h e = absurd (cc)
    no_call (Instr.Cast r op nneg arg to) h e = absurd (cc)
    no_call (Instr.Load r ty p align) h e = absurd (cc)
    no_call (Instr.Store arg p align) h e = absurd (cc)

    none : (is : List Instr) → Each IsLight is → (i : Instr)
        → fetch_or (slice_get is 0) (0 == length is) b.term ≡ AtInstr i → is_end i ≡ true → ⊥
    none [] h i e is = absurd (cc)
    none (x ∷ xs) h i e is = let same : x ≡ i = cc in no_call x h.0 (ap is_end same ∙ is)

-- ---- framed forms of accepted sources

module _ (l : Lowered) (low : IsLowered l) where
  abbrev e : Module
  e = early l

  module _ (k : ℕ) (f : Function) (there : slice_get (early l).functions k ≡ Some f) (coroutine : f.coroutine ≡ true)
      (lay : Layout) (given : IsGiven l.layouts.coroutines lay) where
    rules : KeepsFunctionRules e k f
    rules = early_rules l.text l.source low.source.stands low.source.accepted k f there

    shape : KeepsShape k f
    shape = (early_others l.text l.source low.source.stands low.source.accepted).shape k f there

    paths : KeepsPaths k f
    paths = (early_others l.text l.source low.source.stands low.source.accepted).paths k f there

    pub named : HasBeginName f
    named = early_named l.text l.source low.source.stands low.source.accepted k f there coroutine

    own_returns : HaveOwnReturns (with_edge_blocks f)
    own_returns = suspend_blocks e k f rules coroutine shape.switches

    module _ (g : Function) (h : IsFramedCoroutine (early l) lay f g) where
      pub buildable : IsBuildable e k lay f h.contents h.before named.begin
      buildable = record {
        rules = rules;
        coroutine = coroutine;
        calls = shape.calls;
        switches = shape.switches;
        outside = paths.outside;
        window = paths.window;
        named = named.named;
        contents = h.contents_are;
        widths = early_wide l.text l.source low.source.stands low.source.accepted k f there;
        before_are = h.before_are;
        near = all_near l.source l.share l.layouts low.laid lay given;
        uses = blocks_behind e k lay f h.contents named.begin
            (length (copied f h.contents (celled e f h.contents) h.before).names) rules coroutine shape.calls
            paths.early_address named.named h.contents_are;
      }

      fit : PassesFit e k lay f h.contents h.before
      fit = passes_fit e k lay f h.contents h.before named.begin buildable

      pub called : StaysCalled (with_edge_blocks f) (placed lay f h.contents (copied f h.contents (celled e f h.contents) h.before))
      called =
          built_called e k lay f h.contents h.before named.begin rules coroutine shape.calls shape.switches paths.outside
          paths.window named.named h.contents_are.crossing_are fit

      pub suspends_same : suspends_of g ≡ suspends_of (with_edge_blocks f)
      suspends_same =
          ap suspends_of h.is
          ∙ same_front (placed lay f h.contents (copied f h.contents (celled e f h.contents) h.before)) ∙ called.suspends

      cells : AreCellsFor k (with_edge_blocks f) h.contents.crossing (class_flags f h.contents.classes SlotClass.Local)
      cells = cells_fit e k f h.contents rules coroutine shape.calls shape.switches h.contents_are.crossing_are fit.widths

      one_label : (p : SuspendPoint) → IsListed p (suspends_of (with_edge_blocks f)) → (label : ℕ)
          → IsListed label (return_labels (suspends_of (with_edge_blocks f)))
          → (position_of (with_edge_blocks f) label ≡ 0 → ⊥) → IsReturned g label
      one_label p listed label among other =
          let x = own_return (with_edge_blocks f) label (own_returns.own label among) other in
          (x.0, framed_return (early l) lay f g h label x.0 x.1)

      -- of each suspend of the framed coroutine
      pub built_returns : (p : SuspendPoint) → IsListed p (suspends_of g) → IsReturned g p.resume × IsReturned g p.destroy
      built_returns p listed =
          let own : IsListed p (suspends_of (with_edge_blocks f)) = subst (IsListed p) suspends_same listed in
          let away = cells.returns p own in
          let both = labels_listed (suspends_of (with_edge_blocks f)) p own in
          (one_label p own p.resume both.0 away.resume, one_label p own p.destroy both.1 away.destroy)

  by_form : (k : ℕ) (f g : Function) → slice_get (early l).functions k ≡ Some f
      → Becomes (early l) l.layouts.coroutines f g → g.coroutine ≡ true → (p : SuspendPoint)
      → IsListed p (suspends_of g) → IsReturned g p.resume × IsReturned g p.destroy
  by_form k f _ there (Unchanged plain) c p listed = absurd (not_both f.coroutine plain c)
  by_form k f g there (FramedBy taken _ marked framed) c p listed =
      built_returns k f there marked (layout_at l.layouts.coroutines taken) (number_given l.layouts.coroutines taken) g
      framed p listed

  -- of each coroutine of the framed form
  framed_returns : (k : ℕ) (g : Function) → slice_get l.framed.functions k ≡ Some g → g.coroutine ≡ true
      → (p : SuspendPoint) → IsListed p (suspends_of g) → IsReturned g p.resume × IsReturned g p.destroy
  framed_returns k g there c p listed =
      let x = stands_as (early l) l.layouts.coroutines low.is_framed.functions.count (early l).functions
      l.framed.functions low.is_framed.functions.framed k g there in
      by_form k x.source g x.stands x.becomes c p listed

  -- a block with such a label ends in a jump
  pub jumps_behind : (k : ℕ) (g : Function) → slice_get l.framed.functions k ≡ Some g → g.coroutine ≡ true
      → KeepsFunctionRules l.framed k g → (block : ℕ) (b : Block) → slice_get g.blocks block ≡ Some b
      → is_return_label (suspends_of g) b.label ≡ true → (u : ℕ) × (b.term ≡ Terminator.Jump u)
  jumps_behind k g there c kept block b got is =
      let x = behind_one (suspends_of g) b.label is in
      let both = framed_returns k g there c x.point x.listed in
      ⊎_elim (λ s. on (subst (IsReturned g) (sym s) both.0)) (λ s. on (subst (IsReturned g) (sym s) both.1)) x.is_one
    where
      on : IsReturned g b.label → (u : ℕ) × (b.term ≡ Terminator.Jump u)
      on r =
          let h = r.1 in
          let mine : position_of g b.label ≡ block = own_label k g kept.definitions block b got in
          let its : position_of g h.block.label ≡ suc r.0 = own_label k g kept.definitions (suc r.0) h.block h.there in
          let at : block ≡ suc r.0 = sym mine ∙ ap (position_of g) (sym h.is_label) ∙ its in
          let both : Some b ≡ Some h.block = sym got ∙ ap (slice_get g.blocks) at ∙ h.there in
          let same : b ≡ h.block = cc in
          (h.next, ap (λ (z : Block). z.term) same ∙ h.jump)

  -- ---- with blocks on edges that leave windows

  exited_light : (k : ℕ) (h : Function) → KeepsFunctionRules (exits_split l.framed) k h → (g : Function)
      → with_exit_blocks g ≡ h → (label : ℕ) → IsReturned g label → IsLightBlock h label
  exited_light k h kept g is label r =
      let x = exits_return g label (suc r.0) r.1 in
      let y = subst (λ (z : Function). HasReturn label z.blocks x.0) is x.1 in
      let its : position_of h y.block.label ≡ x.0 = own_label k h kept.definitions x.0 y.block y.there in
      let at : position_of h label ≡ x.0 = ap (position_of h) (sym y.is_label) ∙ its in
      light_first h label y.block y.next (ap (slice_get h.blocks) at ∙ y.there) y.light y.jump

  pub light_returns : IsReady l.layouts l.framed → (k : ℕ) (h : Function)
      → slice_get (exits_split l.framed).functions k ≡ Some h → h.coroutine ≡ true → (p : SuspendPoint)
      → IsListed p (suspends_of h) → IsLightBlock h p.resume × IsLightBlock h p.destroy
  light_returns ready k h there c p listed =
      let y = comes l.framed k h there in
      let own : y.source.coroutine ≡ true = sym (same_kind y.source) ∙ ap (λ (g : Function). g.coroutine) y.is ∙ c in
      let is : with_exit_blocks y.source ≡ h
      = sym (ap (λ (b : Bool). if b then with_exit_blocks y.source else y.source) own) ∙ y.is in
      let rules = kept_there l.layouts l.framed ready k h there in
      let switches = (exits_kept l.text l.source low.source.stands low.source.accepted l.share l.layouts low.laid l.framed
      low.is_framed k y.source y.stands own).switches in
      let was : IsListed p (suspends_of y.source)
      = subst (IsListed p) (ap suspends_of (sym is) ∙ same_exited k y.source own switches) listed in
      let both = framed_returns k y.source y.stands own p was in
      (exited_light k h rules y.source is p.resume both.0, exited_light k h rules y.source is p.destroy both.1)
