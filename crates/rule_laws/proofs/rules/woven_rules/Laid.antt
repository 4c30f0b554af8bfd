-- What is woven, said of the function and the result as wholes: what each operand's kind is, and what is asked of an instruction that is put in.
use Rattle.std.proofs.Common.{◌≡◌, ◌⊎◌, inl, inr, ℕ, ◌+◌, ◌<◌, ◌≤◌, Bool, true, false, List, [], ◌∷◌, ◌++◌, refl, sym, ap, ◌∙◌, subst, arith}
use Rattle.std.proofs.lemmas.Bool.{cases_lt}
use Rattle.std.specs.List.{list_all}
use Rattle.std.specs.Prelude.{None, Option, Some, is_some, map, slice_get, suc}
use Rattle.ir_laws.specs.ir_base.declared.outcome.Place.{Place}
use Rattle.rule_uses.specs.Uses.{block_values, made_by_instrs, phi_values, values_at, values_in}
use Rattle.ir_laws.proofs.facts.Members.{at_each, each_there, each_all, each_turns}
use Rattle.rule_laws.proofs.rules.local_rules.Names.{numbers}
use Rattle.ir_laws.proofs.paths.source_rules.Locals.{listed_right}
use Rattle.rule_laws.proofs.rules.source_rules.Locals.{made_by}
use Rattle.rule_phis.specs.Edges.{incoming_labels}
use Rattle.ir_laws.specs.flow_solver.Paths.{IsListed}
use Rattle.ir_parts.specs.Contents.{ending_operands, instr_operands, instr_types}
use Rattle.ir_parts.specs.Parts.{OfInstr}
use Rattle.ir_laws.specs.ir_model.Names.{position_of}
use Rattle.ir_laws.specs.ir_model.Ty.{Ty}
use Rattle.ir_laws.specs.ir_model.declared.instr.Incoming.{Incoming}
use Rattle.ir_laws.specs.ir_model.declared.instr.Instr.{Instr}
use Rattle.ir_laws.specs.ir_model.declared.instr.Phi.{Phi}
use Rattle.ir_laws.specs.ir_model.declared.instr.Terminator.{Terminator}
use Rattle.ir_laws.specs.ir_model.declared.module.Block.{Block}
use Rattle.ir_laws.specs.ir_model.declared.module.Function.{Function}
use Rattle.ir_laws.specs.ir_model.declared.module.Module.{Module}
use Rattle.ir_laws.specs.ir_model.declared.operand.Arg.{Arg}
use Rattle.ir_laws.specs.ir_model.declared.operand.Callee.{Callee}
use Rattle.ir_laws.specs.ir_model.declared.operand.Intrinsic.{Intrinsic}
use Rattle.ir_laws.specs.ir_model.declared.operand.Operand.{Operand}
use Rattle.rule_locals.specs.Extents.{breaks_extents}
use Rattle.ir_laws.specs.ir_locals.Tables.{or_first}
use Rattle.rule_names.specs.Known.{knows_type}
use Rattle.rule_names.specs.declared.stage.Stage.{Stage}
use Rattle.ir_laws.specs.run_laws.changed.Changed.{Each}
use Rattle.rule_types.specs.Limits.{all_fit}
use Rattle.rule_types.specs.Signatures.{calls_otherwise}
use Rattle.rule_values.specs.Instrs.{fits_instr}
use Rattle.rule_values.specs.Kinds.{value_kind}
use Rattle.rule_values.specs.declared.kinds.Kind.{Kind}
use Rattle.rule_laws.proofs.rules.woven_rules.Alike.{IsAlike, Local as AlikeLocal, Other as AlikeOther, instr_alike, is_a_local}
use Rattle.rule_laws.proofs.rules.woven_rules.ValueKinds.{made_grows, made_some, new_kind, none_new, old_kind}
use Rattle.rule_laws.proofs.rules.woven_rules.Operands.{instr_itself, instr_turns, phi_turns, term_turns}
use Rattle.rule_laws.specs.rules.woven_rules.Blocks.{AreWoven, AreWovenBlocks, Done, Gone, IsFront, IsPutIn, IsWoven, IsWovenBlock, Kept, MarkStays, MayGo, NoBlock, OneBlock, Put, Remain, Stays, Unpromised, WeavesAll, is_mark, may_stand}
use Rattle.ir_laws.specs.paths.woven_rules.Pairs.{AreDifferent}
use Rattle.rule_laws.specs.rules.woven_rules.Pairs.{AreIncomingOnce}
use Rattle.ir_laws.specs.facts.woven_rules.Pairs.{Empty, Pair, Pairwise}
use Rattle.rule_laws.specs.rules.woven_rules.Parts.{InstrStays, PhiStays}
use Rattle.ir_laws.specs.facts.woven_rules.Parts.{TermStays}
use Rattle.rule_laws.specs.rules.woven_rules.Weaving.{Constant, Fetched, Front, IsInPlace, IsKnown, New, Old, Same, Weaving, goes_in, kinds_with, names_nothing}

-- ---- operands

-- the same operand, unless it goes, or a local in the place of one of the same kind
pub data IsLike (w : Weaving) (f g : Function) : Operand → Operand → Type 0 where
  Stayed : (x : Operand) → goes_in w x ≡ false → IsLike w f g x x
  Renamed : (v n : ℕ) → value_kind g n ≡ value_kind f v → IsLike w f g (Operand.Local v) (Operand.Local n)

-- a value of the result, or an operand that names nothing
pub data IsSafe (g : Function) : Operand → Type 0 where
  Valued : (v : ℕ) → is_some (value_kind g v) ≡ true → IsSafe g (Operand.Local v)
  Unnamed : (x : Operand) → names_nothing x ≡ true → IsSafe g x

-- ---- phis

-- the labels of a phi's operands are all different
abbrev pub HasLabelsOnce : Phi → Type 0
HasLabelsOnce p = AreDifferent (incoming_labels p.incoming)

abbrev pub AllLabelsOnce : List Block → Type 0
AllLabelsOnce bs = Each (λ (b : Block). Each HasLabelsOnce b.phis) bs

pub once_each : (f : Function) → AreIncomingOnce f → AllLabelsOnce f.blocks
once_each f h = each_there (λ (b : Block). Each HasLabelsOnce b.phis) f.blocks (λ k b e. each_there HasLabelsOnce b.phis (λ j p d. h k j b p e d))

pub each_once : (f : Function) → AllLabelsOnce f.blocks → AreIncomingOnce f
each_once f h k j b p e d = at_each HasLabelsOnce b.phis j p (at_each (λ (b : Block). Each HasLabelsOnce b.phis) f.blocks k b h e) d

pub block_once : (f : Function) → AreIncomingOnce f → (at : ℕ) (b : Block) → slice_get f.blocks at ≡ Some b
    → Each HasLabelsOnce b.phis
block_once f once at b there = at_each (λ (x : Block). Each HasLabelsOnce x.phis) f.blocks at b (once_each f once) there

-- the labels of the phis' operands are all different, or the phis stay
abbrev pub AreOnceOrSame : List Phi → List Phi → Type 0
AreOnceOrSame ps qs = Each HasLabelsOnce ps ⊎ (qs ≡ ps)

-- ---- instructions and blocks

pub record PutFits (stage : Stage) (m : Module) (g : Function) (block : ℕ) (j : Instr) : Type 0 where
  pub operands : Each (IsSafe g) (instr_operands j)
  pub stands : may_stand block j ≡ true
  pub fits : fits_instr m (value_kind g) j ≡ true
  pub types : list_all (knows_type m) (instr_types j) ≡ true
  pub depths : all_fit m (instr_types j) ≡ true
  pub extents : (p : Place) → breaks_extents stage m p j ≡ false
  pub calls : (p : Place) → calls_otherwise m p (OfInstr j) ≡ false

pub data Remains (w : Weaving) (f g : Function) : Instr → Instr → Type 0 where
  KeptOne : (i j : Instr) → InstrStays (IsLike w f g) i j → (is_mark i ≡ true → MarkStays w i j) → Remains w f g i j
  NoPromise : (r : Option ℕ) (must_tail : Bool) (ty : Option Ty) (a p : Arg) (args : List Arg) → Each (λ (b : Arg). goes_in w b.value ≡ false) (a ∷ args) → Remains w f g (Instr.Call r must_tail ty (Callee.Intrinsic Intrinsic.CoroId) (a ∷ p ∷ args)) (Instr.Call r must_tail ty (Callee.Intrinsic Intrinsic.CoroId) (a ∷ record p { value = Operand.Null } ∷ args))

abbrev pub AreLaid : Weaving → Module → Function → Function → ℕ → List ℕ → List Instr → List Instr → Type 0
AreLaid w m f g block = WeavesAll (λ (made : List ℕ). PutFits w.stage m g block) (MayGo w) (λ (made : List ℕ). Remains w f g)

pub record IsLaidBlock (w : Weaving) (m : Module) (f g : Function) (block : ℕ) (b c : Block) : Type 0 where
  pub label : c.label ≡ b.label
  pub phis : Pairwise (PhiStays (λ (from : ℕ). IsLike w f g)) b.phis c.phis
  pub once : AreOnceOrSame b.phis c.phis
  pub instrs : AreLaid w m f g block (phi_values c) b.instrs c.instrs
  pub term : TermStays (IsLike w f g) b.term c.term

pub data AreLaidBlocks (w : Weaving) (m : Module) (f g : Function) : ℕ → List Block → List Block → Type 0 where
  NoneLaid : (block : ℕ) → AreLaidBlocks w m f g block [] []
  OneLaid : (block : ℕ) (b c : Block) (bs cs : List Block) → IsLaidBlock w m f g block b c → AreLaidBlocks w m f g (block + 1) bs cs → AreLaidBlocks w m f g block (b ∷ bs) (c ∷ cs)

-- ---- so it is of what is woven

pub or_some : (o p : Option Kind) → is_some o ≡ true → or_first o p ≡ o
or_some None p e = absurd (cc)
or_some (Some a) p e = refl

no_local : (x : Operand) → names_nothing x ≡ true → is_a_local x ≡ false
no_local (Operand.Local v) e = absurd (cc)
no_local (Operand.Global n) e = absurd (cc)
no_local _ e = refl

pub front_listed : (w : Weaving) (g : Function) (ns : List ℕ) → Each (IsFront w g) ns → (n : ℕ) → IsListed n ns → IsFront w g n
front_listed w g [] k n l = absurd l
front_listed w g (x ∷ ns) k n (inl e) = subst (IsFront w g) (sym e) k.0
front_listed w g (x ∷ ns) k n (inr l) = front_listed w g ns k.1 n l

module _ (w : Weaving) (m : Module) (f g : Function) (h : IsWoven w m f g) (below : (v : ℕ) → IsListed v (numbers f) → v < w.first) where
  -- a value of the function is old
  pub valued_old : (v : ℕ) → is_some (value_kind f v) ≡ true → v < w.first
  valued_old v e = on (cases_lt v w.first)
    where
      on : (v < w.first) ⊎ (w.first ≤ v) → v < w.first
      on (inl lt) = lt
      on (inr le) = let t : true ≡ false = sym e ∙ ap (λ (o : Option Kind). is_some o) (none_new w m f g v le below) in absurd (cc)

  module _ (block : ℕ) (made : List ℕ) (up : (n : ℕ) → IsListed n made → IsListed n (values_at g block)) where
    like : (x y : Operand) → IsInPlace w f made x y → IsLike w f g x y
    like _ _ (Same x e) = Stayed x e
    like _ _ (Fetched v n low l e) = Renamed v n (new_kind w m f g n low below h block (up n l) ∙ e)

    agrees : (x : Operand) → IsKnown w f block made x → IsAlike (kinds_with w f) (value_kind g) x x
    agrees _ (New n low l) =
        AlikeLocal n n (new_kind w m f g n low below h block (up n l) ∙ sym (ap (λ (o : Option Kind). or_first o (w.kinds n)) (none_new w m f g n low below)))
    agrees _ (Front n not_entry l) =
        let x = front_listed w g w.fronts h.fronts n l in
        AlikeLocal n n (new_kind w m f g n x.0 below h 0 x.1 ∙ sym (ap (λ (o : Option Kind). or_first o (w.kinds n)) (none_new w m f g n x.0 below)))
    agrees _ (Old v stays e reached) = AlikeLocal v v (old_kind w m f g v (valued_old v e) stays h ∙ sym (or_some (value_kind f v) (w.kinds v) e))
    agrees _ (Constant x e) = AlikeOther x (no_local x e)

    safe : (x : Operand) → IsKnown w f block made x → IsSafe g x
    safe _ (New n low l) = Valued n (made_some n g block (up n l))
    safe _ (Front n not_entry l) = Valued n (made_some n g 0 (front_listed w g w.fronts h.fronts n l).1)
    safe _ (Old v stays e reached) = Valued v (ap (λ (o : Option Kind). is_some o) (old_kind w m f g v (valued_old v e) stays h) ∙ e)
    safe _ (Constant x e) = Unnamed x e

    put_fits : (j : Instr) → IsPutIn w m f block made j → PutFits w.stage m g block j
    put_fits j p =
        record {
          operands = each_turns (IsKnown w f block made) (IsSafe g) safe (instr_operands j) p.operands;
          stands = p.stands;
          fits = instr_alike m (kinds_with w f) (value_kind g) j j (instr_itself (IsAlike (kinds_with w f) (value_kind g)) j (each_turns (IsKnown w f block made) (λ (x : Operand). IsAlike (kinds_with w f) (value_kind g) x x) agrees (instr_operands j) p.operands)) ∙ p.fits;
          types = p.types;
          depths = p.depths;
          extents = p.extents;
          calls = p.calls;
        }

    remains : (i j : Instr) → Stays w f made i j → Remains w f g i j
    remains _ _ (Kept i j s mark) =
        KeptOne i j (instr_turns (λ (x : Operand). Unit {0}) (IsInPlace w f made) (IsLike w f g) (λ x y u k. like x y k) i j (each_all (λ (x : Operand). Unit {0}) (λ x. tt) (instr_operands i)) s) mark
    remains _ _ (Unpromised r must_tail ty a p args k) = NoPromise r must_tail ty a p args k

    laid_term : (t u : Terminator) → TermStays (IsInPlace w f made) t u → TermStays (IsLike w f g) t u
    laid_term t u s = term_turns (λ (x : Operand). Unit {0}) (IsInPlace w f made) (IsLike w f g) (λ x y u k. like x y k) t u (each_all (λ (x : Operand). Unit {0}) (λ x. tt) (ending_operands t)) s

  laid_instrs : (block : ℕ) (made : List ℕ) (is js : List Instr) → AreWoven w m f block made is js → ((n : ℕ) → IsListed n (made_by_instrs made js) → IsListed n (values_at g block)) → AreLaid w m f g block made is js
  laid_instrs block made _ _ (Done _) up = Done made
  laid_instrs block made _ _ (Put _ j is js p rest) up =
      Put made j is js (put_fits block made (λ n l. up n (made_grows js (made_by j ++ made) n (listed_right n (made_by j) made l))) j p) (laid_instrs block (made_by j ++ made) is js rest up)
  laid_instrs block made _ _ (Gone _ i is js p rest) up = Gone made i is js p (laid_instrs block made is js rest up)
  laid_instrs block made _ _ (Remain _ i j is js s rest) up =
      Remain made i j is js (remains block made (λ n l. up n (made_grows js (made_by j ++ made) n (listed_right n (made_by j) made l))) i j s) (laid_instrs block (made_by j ++ made) is js rest up)

  phis_laid : (ps qs : List Phi) → Pairwise (PhiStays (λ (from : ℕ). IsInPlace w f (values_at g (position_of g from)))) ps qs → Pairwise (PhiStays (λ (from : ℕ). IsLike w f g)) ps qs
  phis_laid _ _ Empty = Empty
  phis_laid _ _ (Pair p q ps qs s rest) =
      Pair p q ps qs
      (phi_turns (λ (x : Operand). Unit {0}) (λ (from : ℕ). IsInPlace w f (values_at g (position_of g from))) (λ (from : ℕ). IsLike w f g)
      (λ from x y u k. like (position_of g from) (values_at g (position_of g from)) (λ n l. l) x y k) p q (each_all (λ (x : Operand). Unit {0}) (λ x. tt) (map (λ (i : Incoming). i.value) p.incoming)) s)
      (phis_laid ps qs rest)

  laid_block : (block : ℕ) (b c : Block) → slice_get g.blocks block ≡ Some c → AreOnceOrSame b.phis c.phis → IsWovenBlock w m f g block b c → IsLaidBlock w m f g block b c
  laid_block block b c e once s =
      let up : (n : ℕ) → IsListed n (block_values c) → IsListed n (values_at g block) = λ n l. subst (λ (o : Option Block). IsListed n (values_in o)) (sym e) l in
      record {
        label = s.label;
        phis = phis_laid b.phis c.phis s.phis;
        once = once;
        instrs = laid_instrs block (phi_values c) b.instrs c.instrs s.instrs up;
        term = laid_term block (block_values c) up b.term c.term s.term;
      }

  laid_blocks : (block : ℕ) (bs cs : List Block)
      → ((at : ℕ) (c : Block) → slice_get cs at ≡ Some c → slice_get g.blocks (block + at) ≡ Some c)
      → ((at : ℕ) (b c : Block) → slice_get bs at ≡ Some b → slice_get cs at ≡ Some c → AreOnceOrSame b.phis c.phis)
      → AreWovenBlocks w m f g block bs cs → AreLaidBlocks w m f g block bs cs
  laid_blocks block _ _ there once (NoBlock _) = NoneLaid block
  laid_blocks block _ _ there once (OneBlock _ b c bs cs s rest) =
      let here : block + 0 ≡ block = omega arith in
      OneLaid block b c bs cs
      (laid_block block b c (subst (λ (n : ℕ). slice_get g.blocks n ≡ Some c) here (there 0 c refl)) (once 0 b c refl refl) s)
      (laid_blocks (block + 1) bs cs (λ at d e. let next : block + suc at ≡ block + 1 + at = omega arith in subst (λ (n : ℕ). slice_get g.blocks n ≡ Some d) next (there (suc at) d e)) (λ at x y d e. once (suc at) x y d e) rest)

  pub laid_by : ((at : ℕ) (b c : Block) → slice_get f.blocks at ≡ Some b → slice_get g.blocks at ≡ Some c
      → AreOnceOrSame b.phis c.phis) → AreLaidBlocks w m f g 0 f.blocks g.blocks
  laid_by once =
      laid_blocks 0 f.blocks g.blocks (λ at c e. let same : at ≡ 0 + at = omega arith in subst (λ (n : ℕ). slice_get g.blocks n ≡ Some c) same e) once h.blocks

  pub laid : AreIncomingOnce f → AreLaidBlocks w m f g 0 f.blocks g.blocks
  laid all_once = laid_by (λ at b c d e. inl (block_once f all_once at b d))
