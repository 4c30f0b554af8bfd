-- The suspends of a coroutine stay when blocks are put on edges that leave windows, with their labels and edges.
use Rattle.std.proofs.Common.{◌≡◌, ◌⊎◌, inl, inr, ⊎_elim, ℕ, zero, suc, ◌+◌, ◌-◌, ◌<◌, Bool, true, false, List, [], ◌∷◌, ◌++◌, None, Some, if◌then◌else◌, ap, filter, length, map, refl, subst, sym, ◌∙◌, arith}
use Rattle.std.specs.Prelude.{slice_get}
use Rattle.pass_fetch_proof.specs.rule_shape.Switches.{wrong_switch}
use Rattle.pass_fetch_proof.proofs.rule_laws.rules.source_rules.Locals.{own_label}
use Rattle.pass_fetch_proof.specs.ir_laws.paths.threads.Labels.{HasLabelsBelow}
use Rattle.pass_fetch_proof.proofs.edges.rules.CaseLabels.{switch_target}
use Rattle.pass_fetch_proof.proofs.edges.rules.Switched.{switched}
use Rattle.pass_fetch_proof.specs.edges.rules.Returns.{AreSwitched}
use Rattle.pass_fetch_proof.specs.rule_laws.rules.rows.Returns.{IsSwitched}
use Rattle.pass_edges.specs.Edges.{ends_in_suspend, is_suspend, is_suspend_at}
use Rattle.pass_fetch_proof.specs.rule_phis.Edges.{leads, predecessors}
use Rattle.pass_fetch_proof.proofs.rule_laws.rules.known_labels.Known.{labels_known}
use Rattle.pass_fetch_proof.specs.ir_laws.facts.branches.MovedState.{IsSwitch}
use Rattle.pass_fetch_proof.specs.flow_solver.Paths.{IsListed}
use Rattle.pass_fetch_proof.specs.rule_laws.rules.function_rules.Kept.{KeepsFunctionRules}
use Rattle.pass_fetch_proof.specs.pass_intrinsics.Shapes.{is_final, save_of, suspends_of, with_suspend, with_suspends_by, with_suspends_in}
use Rattle.pass_fetch_proof.specs.pass_intrinsics.declared.shape.SuspendPoint.{SuspendPoint}
use Rattle.ir_model.specs.Names.{position_of}
use Rattle.ir_model.specs.declared.instr.Instr.{Instr}
use Rattle.ir_model.specs.declared.instr.Terminator.{Terminator}
use Rattle.ir_model.specs.declared.module.Block.{Block}
use Rattle.ir_model.specs.declared.module.Function.{Function}
use Rattle.ir_model.specs.declared.module.Module.{Module}
use Rattle.ir_model.specs.declared.operand.Callee.{Callee}
use Rattle.ir_model.specs.declared.operand.Intrinsic.{Intrinsic}
use Rattle.pass_fetch_proof.specs.ir_paths.Paths.{targets}
use Rattle.pass_fetch_proof.specs.ir_paths.Windows.{label_of_term}
use Rattle.pass_fetch_proof.proofs.ir_laws.facts.Members.{at_each as each_at}
use Rattle.pass_fetch_proof.specs.run_laws.changed.Changed.{Each as BelowAll, Each}
use Rattle.pass_fetch_proof.specs.rule_laws.frames.replaced.Splittable.{HasOwnEdges, IsLedToBy}
use Rattle.pass_split.specs.pass_exits.ExitBlocks.{blocks_by, exit_blocks, with_exit_blocks, with_exits}
use Rattle.pass_split.specs.pass_exits.Exits.{block_exits, mark_of}
use Rattle.pass_split.specs.pass_exits.declared.exit.Exit.{Exit}
use Rattle.pass_fetch_proof.proofs.ir_laws.paths.woven_rules.Unbroken.{each_listed, of_listed}
use Rattle.pass_exits_proof.proofs.exits.rules.Places.{IsExit, IsOwn, home}
use Rattle.pass_exits_proof.proofs.exits.rules.Shape.{AreFrom, all_from, first_from, rest_from, suspend_block, suspend_unmarked}
use Rattle.pass_fetch_proof.proofs.rule_laws.rules.threaded.Single.{listed_leads}
use Rattle.pass_exits_proof.proofs.exits.rules.Sources.{IsUnmarked, sources_same}

-- ---- a suspend is the last of its block

pub ends_with : (is : List Instr) (x : ℕ) (i : Instr) → slice_get is x ≡ Some i → is_suspend i ≡ true → x + 1 ≡ length is → ends_in_suspend is ≡ true
ends_with is x i e s last =
    let at : length is - 1 ≡ x = omega (arith, last) in
    ap (λ (n : ℕ). is_suspend_at (slice_get is n)) at ∙ ap is_suspend_at e ∙ s

no_suspend : (all : List SuspendPoint) (b : Block) (i : Instr) → is_suspend i ≡ false → with_suspend all b i ≡ all
no_suspend all b (Instr.Call result must_tail ty (Callee.Intrinsic Intrinsic.CoroSuspend) args) e = absurd (cc)
no_suspend all b _ e = refl

no_suspends : (all : List SuspendPoint) (b : Block) (is : List Instr) → ((x : ℕ) (i : Instr) → slice_get is x ≡ Some i → is_suspend i ≡ false) → with_suspends_in all b is ≡ all
no_suspends all b [] h = refl
no_suspends all b (i ∷ is) h = ap (λ (ps : List SuspendPoint). with_suspends_in ps b is) (no_suspend all b i (h 0 i refl)) ∙ no_suspends all b is (λ x j e. h (suc x) j e)

module _ (f : Function) (last : AreSwitched f) where
  pub suspend_ends : (k : ℕ) (b : Block) (x : ℕ) (i : Instr) → slice_get f.blocks k ≡ Some b → slice_get b.instrs x ≡ Some i → is_suspend i ≡ true → ends_in_suspend b.instrs ≡ true
  suspend_ends k b x i there stands s = ends_with b.instrs x i stands s (last k x b i there stands s).last

  one_block : (all : List SuspendPoint) (k n : ℕ) (b : Block) → slice_get f.blocks k ≡ Some b → with_suspends_in all (with_exits f k n b) b.instrs ≡ with_suspends_in all b b.instrs
  one_block all k n b there = on (ends_in_suspend b.instrs) refl
    where
      on : (s : Bool) → ends_in_suspend b.instrs ≡ s → with_suspends_in all (with_exits f k n b) b.instrs ≡ with_suspends_in all b b.instrs
      on true e = ap (λ (c : Block). with_suspends_in all c b.instrs) (suspend_block f k n b there e)
      on false e =
          no_suspends all (with_exits f k n b) b.instrs none ∙ sym (no_suspends all b b.instrs none)
        where
          none : (x : ℕ) (i : Instr) → slice_get b.instrs x ≡ Some i → is_suspend i ≡ false
          none x i stands = by (is_suspend i) refl
            where
              by : (t : Bool) → is_suspend i ≡ t → t ≡ false
              by true s = let no : true ≡ false = sym (suspend_ends k b x i there stands s) ∙ e in absurd (cc)
              by false s = refl

  skip : (all : List SuspendPoint) (n : ℕ) (es : List Exit) (rest : List Block) → with_suspends_by all (exit_blocks n es ++ rest) ≡ with_suspends_by all rest
  skip all n [] rest = refl
  skip all n (e ∷ es) rest = skip all (n + 1) es rest

  suspends_by : (all : List SuspendPoint) (at n : ℕ) (bs : List Block) → AreFrom f at bs → with_suspends_by all (blocks_by f at n bs) ≡ with_suspends_by all bs
  suspends_by all at n [] h = refl
  suspends_by all at n (b ∷ bs) h =
      let next : ℕ = n + length (block_exits f at b) in
      ap (λ (ps : List SuspendPoint). with_suspends_by ps (exit_blocks n (block_exits f at b) ++ blocks_by f (at + 1) next bs)) (one_block all at n b (first_from f at b bs h))
      ∙ skip (with_suspends_in all b b.instrs) n (block_exits f at b) (blocks_by f (at + 1) next bs)
      ∙ suspends_by (with_suspends_in all b b.instrs) (at + 1) next bs (rest_from f at b bs h)

  same_by_last : suspends_of (with_exit_blocks f) ≡ suspends_of f
  same_by_last = suspends_by [] 0 (length f.names) f.blocks (all_from f)

pub same_suspends : (k : ℕ) (f : Function) → f.coroutine ≡ true → wrong_switch k f ≡ None → suspends_of (with_exit_blocks f) ≡ suspends_of f
same_suspends k f coroutine switches = same_by_last f (switched k f coroutine switches)

-- ---- the block of a suspend of the list

record IsOf (b : Block) (p : SuspendPoint) : Type 0 where
  at : ℕ
  instr : Instr
  stands : slice_get b.instrs at ≡ Some instr
  is_suspend_there : is_suspend instr ≡ true
  block : p.block ≡ b.label
  resume : p.resume ≡ label_of_term 0 b.term
  destroy : p.destroy ≡ label_of_term 1 b.term

one_more : (all : List SuspendPoint) (q p : SuspendPoint) → IsListed p (all ++ q ∷ []) → IsListed p all ⊎ (p ≡ q)
one_more [] q p (inl e) = inr e
one_more [] q p (inr l) = absurd l
one_more (x ∷ all) q p (inl e) = inl (inl e)
one_more (x ∷ all) q p (inr l) = ⊎_elim (λ h. inl (inr h)) (λ e. inr e) (one_more all q p l)

from_one : (all : List SuspendPoint) (b : Block) (i : Instr) (p : SuspendPoint) → IsListed p (with_suspend all b i) → IsListed p all ⊎ ((is_suspend i ≡ true) × ((p.block ≡ b.label) × ((p.resume ≡ label_of_term 0 b.term) × (p.destroy ≡ label_of_term 1 b.term))))
from_one all b (Instr.Call result must_tail ty (Callee.Intrinsic Intrinsic.CoroSuspend) args) p l = ⊎_elim
    (λ h. inl h)
    (λ e. inr (refl, (ap (λ (q : SuspendPoint). q.block) e, (ap (λ (q : SuspendPoint). q.resume) e, ap (λ (q : SuspendPoint). q.destroy) e))))
    (one_more all (record { save = save_of args; is_final = is_final args; block = b.label; resume = label_of_term 0 b.term; destroy = label_of_term 1 b.term }) p l)
from_one all b _ p l = inl l

from_instrs : (all : List SuspendPoint) (b : Block) (is : List Instr) (p : SuspendPoint) → ((x : ℕ) (i : Instr) → slice_get is x ≡ Some i → (y : ℕ) × (slice_get b.instrs y ≡ Some i)) → IsListed p (with_suspends_in all b is) → IsListed p all ⊎ IsOf b p
from_instrs all b [] p h l = inl l
from_instrs all b (i ∷ is) p h l = ⊎_elim
    (λ (g : IsListed p (with_suspend all b i)). ⊎_elim
    (λ old. inl old)
    (λ x. let y = h 0 i refl in inr (record { at = y.0; instr = i; stands = y.1; is_suspend_there = x.0; block = x.1.0; resume = x.1.1.0; destroy = x.1.1.1 }))
    (from_one all b i p g))
    (λ (x : IsOf b p). inr x)
    (from_instrs (with_suspend all b i) b is p (λ x j e. h (suc x) j e) l)

pub record HasOrigin (f : Function) (p : SuspendPoint) : Type 0 where
  pub index : ℕ
  pub block : Block
  pub got : slice_get f.blocks index ≡ Some block
  pub at : ℕ
  pub instr : Instr
  pub stands : slice_get block.instrs at ≡ Some instr
  pub is_suspend_there : is_suspend instr ≡ true
  pub is_block : p.block ≡ block.label
  pub resume : p.resume ≡ label_of_term 0 block.term
  pub destroy : p.destroy ≡ label_of_term 1 block.term

from_blocks : (f : Function) (at : ℕ) (all : List SuspendPoint) (bs : List Block) (p : SuspendPoint) → AreFrom f at bs → IsListed p (with_suspends_by all bs) → IsListed p all ⊎ HasOrigin f p
from_blocks f at all [] p h l = inl l
from_blocks f at all (b ∷ bs) p h l = ⊎_elim
    (λ (g : IsListed p (with_suspends_in all b b.instrs)). ⊎_elim
    (λ old. inl old)
    (λ (x : IsOf b p). inr (record { index = at; block = b; got = first_from f at b bs h; at = x.at; instr = x.instr; stands = x.stands; is_suspend_there = x.is_suspend_there; is_block = x.block; resume = x.resume; destroy = x.destroy }))
    (from_instrs all b b.instrs p (λ x i e. (x, e)) g))
    (λ (x : HasOrigin f p). inr x)
    (from_blocks f (at + 1) (with_suspends_in all b b.instrs) bs p (rest_from f at b bs h) l)

pub origin : (f : Function) (p : SuspendPoint) → IsListed p (suspends_of f) → HasOrigin f p
origin f p l = ⊎_elim (λ (no : IsListed p []). absurd no) (λ (x : HasOrigin f p). x) (from_blocks f 0 [] f.blocks p (all_from f) l)

-- ---- its labels and edges

listed_low : (least : ℕ) (ts : List ℕ) (t : ℕ) → BelowAll (λ n. n < least) ts → IsListed t ts → t < least
listed_low least [] t h l = absurd l
listed_low least (x ∷ ts) t h (inl e) = let lt : x < least = h.0 in omega (arith, lt, e)
listed_low least (x ∷ ts) t h (inr l) = listed_low least ts t h.1 l

switch_is : (t : Terminator) (b : Block) (x : ℕ) (i : Instr) → b.term ≡ t → IsSwitched b x i → IsSwitch t
switch_is t b x i e s = subst IsSwitch (sym s.is ∙ e) tt

filtered_listed : (t : Block → Bool) (bs : List Block) (k : ℕ) (b : Block) → slice_get bs k ≡ Some b → t b ≡ true → IsListed b.label (map (λ c. c.label) (filter t bs))
filtered_listed t [] k b e p = absurd (cc)
filtered_listed t (c ∷ bs) k b e p = on (t c) refl k e (filtered_listed t bs)
  where
    on : (x : Bool) → t c ≡ x → (k : ℕ) → slice_get (c ∷ bs) k ≡ Some b → ((j : ℕ) (d : Block) → slice_get bs j ≡ Some d → t d ≡ true → IsListed d.label (map (λ y. y.label) (filter t bs))) → IsListed b.label (map (λ y. y.label) (if x then c ∷ filter t bs else filter t bs))
    on true d zero e again = let same : c ≡ b = cc in inl (ap (λ (y : Block). y.label) (sym same))
    on true d (suc j) e again = inr (again j b e p)
    on false d zero e again = let same : c ≡ b = cc in let no : true ≡ false = sym p ∙ ap t (sym same) ∙ d in absurd (cc)
    on false d (suc j) e again = again j b e p

module _ (m : Module) (func : ℕ) (f : Function) (rules : KeepsFunctionRules m func f) (last : AreSwitched f) where
  module _ (p : SuspendPoint) (x : HasOrigin f p) where
    pub ends : ends_in_suspend x.block.instrs ≡ true
    ends = suspend_ends f last x.index x.block x.at x.instr x.got x.stands x.is_suspend_there

    pub label_listed : (v : ℕ) → IsListed (label_of_term v x.block.term) (targets x.block.term)
    label_listed v = switch_target v x.block.term (switch_is x.block.term x.block x.at x.instr refl (last x.index x.at x.block x.instr x.got x.stands x.is_suspend_there))

    label_low : (v : ℕ) → label_of_term v x.block.term < length f.names
    label_low v = listed_low (length f.names) (targets x.block.term) (label_of_term v x.block.term) (each_at (HasLabelsBelow (length f.names)) f.blocks x.index x.block (labels_known func f rules.tabled m rules.known) x.got).targets (label_listed v)

    -- its edges are unmarked, and no other ones lead to the label
    led_unmarked : (label : ℕ) → predecessors f label ≡ p.block ∷ [] → IsUnmarked f label
    led_unmarked label sources k c there l =
        let source : IsListed c.label (p.block ∷ []) = subst (IsListed c.label) sources (filtered_listed (leads label) f.blocks k c there (listed_leads c label l)) in
        let name : c.label ≡ x.block.label = only source ∙ x.is_block in
        let place : k ≡ x.index = sym (own_label func f rules.definitions k c there) ∙ ap (position_of f) name ∙ own_label func f rules.definitions x.index x.block x.got in
        subst (λ (n : ℕ). mark_of f n label ≡ None) (sym place) (suspend_unmarked f x.index x.block x.got ends label)
      where
        only : IsListed c.label (p.block ∷ []) → c.label ≡ p.block
        only (inl e) = e
        only (inr m) = absurd m

    one_edge : (v label : ℕ) → label ≡ label_of_term v x.block.term → IsLedToBy f label p.block → IsLedToBy (with_exit_blocks f) label p.block
    one_edge v label is h = record {
      phis = λ at b there e. ⊎_elim
          (λ (y : IsOwn f at b). ap (λ (c : Block). c.phis) y.is ∙ h.phis y.index y.block y.got (sym (ap (λ (c : Block). c.label) y.is) ∙ e))
          (λ (y : IsExit f at b). ap (λ (c : Block). c.phis) y.is)
          (home f at b there);
      sources = sources_same f label (subst (λ (n : ℕ). n < length f.names) (sym is) (label_low v)) (led_unmarked label h.sources) ∙ h.sources;
    }

    pub own_edges : HasOwnEdges f p → HasOwnEdges (with_exit_blocks f) p
    own_edges h = record { resume = one_edge 0 p.resume x.resume h.resume; destroy = one_edge 1 p.destroy x.destroy h.destroy }

pub edges_stay : (m : Module) (k : ℕ) (f : Function) → KeepsFunctionRules m k f → f.coroutine ≡ true → wrong_switch k f ≡ None → Each (HasOwnEdges f) (suspends_of f) → Each (HasOwnEdges (with_exit_blocks f)) (suspends_of (with_exit_blocks f))
edges_stay m k f rules coroutine switches h =
    let last = switched k f coroutine switches in
    subst (Each (HasOwnEdges (with_exit_blocks f))) (sym (same_suspends k f coroutine switches))
    (each_listed (HasOwnEdges (with_exit_blocks f)) (suspends_of f) (λ p l. own_edges m k f rules last p (origin f p l) (of_listed (HasOwnEdges f) (suspends_of f) h p l)))
