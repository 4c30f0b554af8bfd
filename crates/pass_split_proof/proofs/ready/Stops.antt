-- The switch of a suspend stands in no part: each part ends the suspend's block with a jump.
use Rattle.std.proofs.Common.{◌≡◌, ◌<◌, inl, inr, ℕ, Bool, true, false, List, [], ◌∷◌, length, refl, sym, ap, ◌∙◌, subst, arith}
use Rattle.std.proofs.lemmas.Bool.{false≢true}
use Rattle.std.specs.Prelude.{None, Option, Some, map, slice_get}
use Rattle.pass_proofs.specs.flow_solver.Paths.{IsListed}
use Rattle.pass_proofs.specs.frame_layout.declared.layout.Layout.{Layout}
use Rattle.pass_proofs.proofs.ir_laws.paths.edges.Lists.{listed_at}
use Rattle.pass_proofs.proofs.ir_laws.paths.replaced.Known.{of_listed}
use Rattle.pass_proofs.proofs.ir_laws.paths.renamed.Uses.{stands_in}
use Rattle.pass_proofs.proofs.ir_laws.paths.uses.Paths.{place_of}
use Rattle.pass_proofs.specs.ir_model.declared.instr.Case.{Case}
use Rattle.pass_proofs.specs.ir_model.declared.instr.Instr.{Instr}
use Rattle.pass_proofs.specs.ir_model.declared.instr.Phi.{Phi}
use Rattle.pass_proofs.specs.ir_model.declared.instr.Terminator.{Terminator}
use Rattle.pass_proofs.specs.ir_model.declared.module.Block.{Block}
use Rattle.pass_proofs.specs.ir_model.declared.module.Function.{Function}
use Rattle.pass_proofs.specs.ir_model.declared.module.Module.{Module}
use Rattle.pass_proofs.specs.ir_model.declared.operand.Callee.{Callee}
use Rattle.pass_proofs.specs.ir_model.declared.operand.Intrinsic.{Intrinsic}
use Rattle.pass_proofs.specs.ir_model.declared.operand.Operand.{Operand}
use Rattle.pass_proofs.specs.ir_parts.Contents.{ending_operands}
use Rattle.pass_proofs.specs.pass_intrinsics.Cuts.{cut_at}
use Rattle.pass_proofs.specs.pass_intrinsics.Shapes.{index_name, shape_of}
use Rattle.pass_proofs.specs.pass_intrinsics.declared.cuts.Cut.{Cut}
use Rattle.pass_proofs.specs.pass_intrinsics.declared.shape.Part.{Part}
use Rattle.pass_proofs.specs.pass_intrinsics.declared.shape.Shape.{Shape}
use Rattle.pass_proofs.proofs.split.edges.Kept.{kept_home}
use Rattle.pass_proofs.proofs.split.edges.Labels.{IsPartBlock, OfBack, OfDone, OfEntry, OfNone, OfPiece, part_home, whole}
use Rattle.pass_proofs.proofs.split.edges.Sources.{pruned_part}
use Rattle.pass_proofs.specs.split.rules.Parted.{IsPartOf}
use Rattle.pass_proofs.specs.split.rules.Pieced.{ArePieces, BeginsAgain, Ends, Marks, Returns, Stays, Suspends, Transfers}
use Rattle.pass_proofs.specs.split.rules.Splittable.{IsSplittable}
use Rattle.pass_proofs.specs.pass_split.Parts.{origins_for, part_names}
use Rattle.pass_proofs.specs.pass_split.Pieces.{redirected_term}
use Rattle.pass_proofs.specs.pass_split.Reached.{pruned}
use Rattle.pass_split_proof.proofs.ready.Operands.{stop_here}
use Rattle.pass_split_proof.specs.states.Values.{IsStopResult}
use Rattle.pass_proofs.proofs.rule_laws.rules.sources.Places.{instr_there, point}
use Rattle.pass_proofs.specs.rule_shape.Suspends.{is_suspend}
use Rattle.pass_proofs.specs.rule_uses.Uses.{locals_in}
use Rattle.pass_proofs.specs.run_laws.changed.Changed.{Each}

abbrev pub NoSuspends : List Instr → Type 0
NoSuspends is = Each (λ (i : Instr). is_suspend i ≡ false) is

abbrev pub is_switch : Terminator → Bool
is_switch (Terminator.Switch arg default cases) = true
is_switch t = false

suspend_cut : (s : Shape) (part : Part) (i : Instr) (after : List Instr) → is_suspend i ≡ true
    → cut_at s part i after ≡ Cut.Suspends
suspend_cut s part (Instr.Call r must_tail ty (Callee.Intrinsic Intrinsic.CoroSuspend) args) after e = refl
suspend_cut s part _ after e = absurd (cc)

not_suspended : (s : Shape) (part : Part) (i : Instr) (after : List Instr) (c : Cut) → cut_at s part i after ≡ c
    → (c ≡ Cut.Suspends → ⊥) → is_suspend i ≡ false
not_suspended s part i after c e none = on (is_suspend i) refl
  where
    on : (b : Bool) → is_suspend i ≡ b → b ≡ false
    on false d = refl
    on true d = absurd (none (sym e ∙ suspend_cut s part i after d))

stays_apart : Cut.Stays ≡ Cut.Suspends → ⊥
stays_apart e = absurd (cc)

marks_apart : (l : ℕ) → Cut.Marks l ≡ Cut.Suspends → ⊥
marks_apart l e = absurd (cc)

term_of : Block → Terminator
term_of b = b.term

-- a piece that ends with a switch is the last of a block without suspends, whose terminator is redirected
pub record IsRedirected (s : Shape) (t : Terminator) (is : List Instr) (c : Block) : Type 0 where
  pub none : NoSuspends is
  pub same : c.term ≡ redirected_term s t

no_switch : {A : Type 0} (c d : Block) → c ≡ d → is_switch d.term ≡ false → is_switch c.term ≡ true → A
no_switch c d e no_e yes_e = absurd (false≢true (sym no_e ∙ ap (λ (b : Block). is_switch b.term) (sym e) ∙ yes_e))

pub switch_piece : (s : Shape) (part : Part) (t : Terminator) (label : ℕ) (phis : List Phi) (n : ℕ) (is : List Instr)
    (cs : List Block) (last : ℕ) → ArePieces s part t label phis n is cs last → (c : Block) → IsListed c cs
    → is_switch c.term ≡ true → IsRedirected s t is c
switch_piece s part t _ _ _ _ _ _ (Ends label n phis) c (inl e) h = record
    { none = tt; same = ap (λ (b : Block). b.term) e }
switch_piece s part t _ _ _ _ _ _ (Ends label n phis) c (inr l) h = absurd l
switch_piece s part t _ _ _ _ _ _ (Stays label n last phis i is d ds begins cut k) c (inl e) h =
    let same : c.term ≡ d.term = ap (λ (b : Block). b.term) e in
    let x = switch_piece s part t label phis _ is (d ∷ ds) last k d (inl refl)
    (subst (λ (u : Terminator). is_switch u ≡ true) same h) in
    record {
      none = (not_suspended s part i is Cut.Stays cut stays_apart, x.none);
      same = same ∙ x.same;
    }
switch_piece s part t _ _ _ _ _ _ (Stays label n last phis i is d ds begins cut k) c (inr l) h =
    let x = switch_piece s part t label phis _ is (d ∷ ds) last k c (inr l) h in
    record { none = (not_suspended s part i is Cut.Stays cut stays_apart, x.none); same = x.same }
switch_piece s part t _ _ _ _ _ _ (Marks label n last mark phis i is ds begins cut k) c (inl e) h = no_switch c _ e
    refl h
switch_piece s part t _ _ _ _ _ _ (Marks label n last mark phis i is ds begins cut k) c (inr l) h =
    let x = switch_piece s part t mark [] _ is ds last k c l h in
    record { none = (not_suspended s part i is (Cut.Marks mark) cut (marks_apart mark), x.none); same = x.same }
switch_piece s part t _ _ _ _ _ _ (Suspends label n phis i is begins cut) c (inl e) h = no_switch c _ e refl h
switch_piece s part t _ _ _ _ _ _ (Suspends label n phis i is begins cut) c (inr l) h = absurd l
switch_piece s part t _ _ _ _ _ _ (Returns label n phis i is begins cut) c (inl e) h = no_switch c _ e refl h
switch_piece s part t _ _ _ _ _ _ (Returns label n phis i is begins cut) c (inr l) h = absurd l
switch_piece s part t _ _ _ _ _ _ (Transfers label n j phis i is begins cut) c (inl e) h = no_switch c _ e refl h
switch_piece s part t _ _ _ _ _ _ (Transfers label n j phis i is begins cut) c (inr (inl e)) h = no_switch c _ e refl h
switch_piece s part t _ _ _ _ _ _ (Transfers label n j phis i is begins cut) c (inr (inr l)) h = absurd l
switch_piece s part t _ _ _ _ _ _ (BeginsAgain label n phis i is begins) c (inl e) h = no_switch c _ e refl h
switch_piece s part t _ _ _ _ _ _ (BeginsAgain label n phis i is begins) c (inr l) h = absurd l

-- the value on which a terminator switches
abbrev pub switched_on : Terminator → Option Operand
switched_on (Terminator.Switch arg default cases) = Some arg.value
switched_on t = None

pub redirected_on : (s : Shape) (t : Terminator) → switched_on (redirected_term s t) ≡ switched_on t
redirected_on s (Terminator.Switch arg default cases) = refl
redirected_on s (Terminator.Jump label) = refl
redirected_on s (Terminator.Branch c a b) = refl
redirected_on s (Terminator.Ret value) = refl
redirected_on s Terminator.Unreachable = refl

switches_on : (t : Terminator) (x : Operand) → switched_on t ≡ Some x → is_switch t ≡ true
switches_on (Terminator.Switch arg default cases) x e = refl
switches_on (Terminator.Jump label) x e = absurd (cc)
switches_on (Terminator.Branch c a b) x e = absurd (cc)
switches_on (Terminator.Ret value) x e = absurd (cc)
switches_on Terminator.Unreachable x e = absurd (cc)

ends_on : (t : Terminator) (v : ℕ) → switched_on t ≡ Some (Operand.Local v)
    → IsListed v (locals_in (ending_operands t))
ends_on (Terminator.Switch arg default cases) v e =
    let same : arg.value ≡ Operand.Local v = cc in
    subst (λ (x : Operand). IsListed v (locals_in (x ∷ map (λ (k : Case). k.arg.value) cases))) (sym same)
    (inl refl)
ends_on (Terminator.Jump label) v e = absurd (cc)
ends_on (Terminator.Branch c a b) v e = absurd (cc)
ends_on (Terminator.Ret value) v e = absurd (cc)
ends_on Terminator.Unreachable v e = absurd (cc)

-- what a suspend gives is below the names (N1, N2)
module _ (m : Module) (k : ℕ) (f : Function) (begin : ℕ) (x : IsSplittable m k f begin) (layout : Layout) (part : Part)
    (v : ℕ) (r : IsStopResult f v) (low : v < length f.names) where
  abbrev s : Shape
  s = shape_of f layout

  in_piece : (t : Block) → IsListed t f.blocks → (c : Block) → IsRedirected s t.term t.instrs c
      → switched_on c.term ≡ Some (Operand.Local v) → ⊥
  in_piece t l c y e =
      let q = place_of f.blocks t l in
      let same : switched_on t.term ≡ Some (Operand.Local v) = sym (redirected_on s t.term)
      ∙ sym (ap switched_on y.same) ∙ e in
      let here : q.0 ≡ r.block = stop_here k f x.coroutine x.switches q.0 v t q.1 (ends_on t.term v same) r in
      let i : Instr = Instr.Call (Some v) r.must_tail r.ty (Callee.Intrinsic Intrinsic.CoroSuspend) r.args in
      let z = stands_in f (point r.block r.at) i (instr_there f r.block r.at i r.there) in
      let both : Some t ≡ Some z.block = sym q.1 ∙ ap (slice_get f.blocks) here ∙ z.got in
      let one : t ≡ z.block = cc in
      let none : is_suspend i ≡ false = of_listed (λ (j : Instr). is_suspend j ≡ false) z.block.instrs i
      (subst (λ (b : Block). NoSuspends b.instrs) one y.none) (listed_at z.block.instrs r.at i z.stands) in
      false≢true (sym none)

  module _ (p : Function) (blocks : p.blocks ≡ whole s part f)
      (names : p.names ≡ part_names s part f (origins_for s part f))
    where
      by_home : (c : Block) → IsPartBlock s part f c → switched_on c.term ≡ Some (Operand.Local v) → ⊥
      by_home c (OfEntry on is) e =
          let same : Some (Operand.Local (index_name s)) ≡ Some (Operand.Local v) = sym
          (ap (λ (b : Block). switched_on b.term) is) ∙ e in
          let one : index_name s ≡ v = cc in
          absurd (omega (arith, one, low))
      by_home c (OfNone on is) e = let none : None ≡ Some (Operand.Local v) = sym
          (ap (λ (b : Block). switched_on b.term) is) ∙ e in absurd (cc)
      by_home c (OfBack on b) e = let none : None ≡ Some (Operand.Local v) = sym
          (ap (λ (d : Block). switched_on d.term) b.is) ∙ e in absurd (cc)
      by_home c (OfDone is) e = let none : None ≡ Some (Operand.Local v) = sym
          (ap (λ (b : Block). switched_on b.term) is) ∙ e in absurd (cc)
      by_home c (OfPiece y) e = in_piece y.block y.listed c
          (switch_piece s part y.block.term y.block.label _ y.of.start y.block.instrs y.of.pieces y.of.last y.of.are
          c y.piece
          (switches_on c.term (Operand.Local v) e)) e

      none_in : (c : Block) → IsListed c (pruned p).blocks → switched_on c.term ≡ Some (Operand.Local v) → ⊥
      none_in c l e =
          let y = kept_home m k f begin x layout part p blocks names c l in
          by_home y.before (part_home s part f y.before y.listed)
          (sym (ap (λ (b : Block). switched_on b.term) y.is) ∙ e)

-- no block of a part switches on what a suspend gives
pub no_stop_switch : (m : Module) (k : ℕ) (f g : Function) (begin : ℕ) (x : IsSplittable m k f begin) (layout : Layout)
    (part : Part) → IsPartOf (shape_of f layout) f part g → (v : ℕ) → IsStopResult f v → v < length f.names
    → (c : Block) → IsListed c g.blocks → switched_on c.term ≡ Some (Operand.Local v) → ⊥
no_stop_switch m k f g begin x layout part is v r low c l e =
    let y = pruned_part (shape_of f layout) part f g is in
    none_in m k f begin x layout part v r low y.before y.blocks y.names c
    (subst (λ (h : Function). IsListed c h.blocks) y.is l) e
