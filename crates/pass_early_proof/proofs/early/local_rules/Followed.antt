-- What the values of the result are, beside those of the source.
use Rattle.std.proofs.Common.{◌≡◌, ⊎_elim, ℕ, suc, ◌+◌, ◌<◌, ◌≤◌, Bool, true, false, List, [], ◌∷◌, ◌++◌, length, refl, sym, ap, ◌∙◌, arith}
use Rattle.std.proofs.lemmas.Bool.{cases_lt}
use Rattle.std.specs.Prelude.{None, Option, Some, slice_get, ◌==◌, ◌&&◌, if◌then◌else◌}
use Rattle.rule_laws.specs.ir_base.declared.outcome.Place.{Place}
use Rattle.rule_laws.proofs.ir_laws.facts.Members.{each_there}
use Rattle.rule_laws.proofs.ir_laws.facts.Truth.{equal_numbers, itself, and_first, holds}
use Rattle.rule_laws.proofs.rules.renamed.Outside.{at_point}
use Rattle.rule_laws.proofs.rules.renamed.Switches.{none_part}
use Rattle.pass_early_proof.proofs.early.local_rules.Carried.{carried}
use Rattle.pass_early_proof.proofs.early.local_rules.Names.{AreApart, name_apart, named_once, save_apart, source_apart}
use Rattle.pass_early_proof.proofs.early.local_rules.Rules.{otherwise_carried}
use Rattle.pass_early_proof.proofs.early.local_rules.Turned.{Any, Begins, Further, NoBlock, Nothing, OneMore, Saves, Stays, Turns, TurnsAll, TurnsBlocks, marked_blocks, name_as, none_renamed, same_blocks, turned_as}
use Rattle.pass_early_proof.proofs.early.local_rules.ValueKinds.{kind_made, named_value_kind, saved_value_kind}
use Rattle.rule_laws.proofs.rules.local_rules.ValueKinds.{kind_none}
use Rattle.rule_laws.proofs.ir_laws.facts.local_rules.Woven.{other_number}
use Rattle.pass_early.specs.BeginName.{if_unnamed, with_begin_name}
use Rattle.pass_early.specs.Early.{early_module, early_named, renaming_of, renaming_to, save_call}
use Rattle.pass_early.specs.Renaming.{is_renamed, renamed_instr, renamed_value}
use Rattle.pass_early.specs.declared.renaming.Renaming.{Renaming}
use Rattle.pass_early_proof.proofs.early.source_rules.Makers.{begin_of, not_frame, renamed_frame, to_is}
use Rattle.rule_laws.proofs.rules.source_rules.Order.{IsUnbroken}
use Rattle.rule_laws.specs.rules.source_rules.Named.{HasTabledLocals}
use Rattle.rule_laws.specs.ir_parts.Parts.{OfInstr, instr_place, parts_of}
use Rattle.ir_model.specs.Calls.{first_result}
use Rattle.ir_model.specs.Layout.{size_of}
use Rattle.ir_model.specs.declared.instr.Instr.{Instr}
use Rattle.ir_model.specs.declared.module.Block.{Block}
use Rattle.ir_model.specs.declared.module.Function.{Function}
use Rattle.ir_model.specs.declared.module.Module.{Module}
use Rattle.ir_model.specs.declared.operand.Callee.{Callee}
use Rattle.ir_model.specs.declared.operand.Intrinsic.{Intrinsic}
use Rattle.rule_laws.specs.ir_paths.Windows.{instr_at, instr_in, is_call_of}
use Rattle.rule_laws.specs.ir_paths.declared.point.Point.{Point}
use Rattle.rule_laws.specs.rule_locals.Markers.{block_size, made_size, slot_size}
use Rattle.rule_laws.specs.ir_locals.Tables.{first_in, or_first}
use Rattle.rule_laws.specs.run_laws.changed.Changed.{Each, result_of}
use Rattle.rule_laws.specs.rule_types.Signatures.{are_wanted, calls_otherwise, first_otherwise, is_result}
use Rattle.rule_laws.specs.rule_types.Wants.{intrinsic_params, is_ptr}
use Rattle.rule_laws.specs.rule_types.declared.wants.Basic.{Basic}
use Rattle.rule_laws.specs.rule_values.Kinds.{instr_kind, value_kind}
use Rattle.rule_laws.specs.rule_values.declared.kinds.Kind.{Kind}
use Rattle.rule_laws.specs.rule_windows.Points.{phi_count}
use Rattle.rule_laws.proofs.rules.local_rules.Followed.{begin_ptr, ptr_kind}

-- what a function is turned to, with the kinds of values
pub record Follows (m : Module) (f g : Function) : Type 0 where
  pub renaming : Renaming
  pub blocks : TurnsBlocks renaming (λ n. value_kind g n ≡ Some Kind.Saved) f.blocks g.blocks
  pub kinds : (v : ℕ) (kind : Kind) → value_kind f v ≡ Some kind → value_kind g (renamed_value renaming v) ≡ Some kind
  pub stays : (v : ℕ) (kind : Kind) → value_kind f v ≡ Some kind → value_kind g v ≡ Some kind
  pub slots : (v s : ℕ) → slot_size m f v ≡ Some s → is_renamed renaming v ≡ false

-- ---- the sizes of slots

module _ (m : Module) (r : Renaming) (fresh : ℕ → Type 0) (v : ℕ) where
  abbrev m2 : Module
  m2 = early_module m

  made_same : (i : Instr) → made_size m2 (renamed_instr r i) v ≡ made_size m i v
  made_same (Instr.Alloca result ty align) = refl
  made_same _ = refl

  one_same : (i : Instr) (js ks : List Instr) → Turns r fresh i js → first_in (made_size m2) (js ++ ks) v ≡ or_first (made_size m i v) (first_in (made_size m2) ks v)
  one_same i _ ks (Stays _) = ap (λ o. or_first o (first_in (made_size m2) ks v)) (made_same i)
  one_same _ _ ks (Begins n result must_tail ty args) = refl
  one_same _ _ ks (Saves n result must_tail ty a args number none) = refl

  instrs_same : (is js : List Instr) → TurnsAll r fresh is js → first_in (made_size m2) js v ≡ first_in (made_size m) is v
  instrs_same _ _ Nothing = refl
  instrs_same _ _ (Further i is js ks t rest) = one_same i js ks t ∙ ap (or_first (made_size m i v)) (instrs_same is ks rest)

  blocks_same : (bs cs : List Block) → TurnsBlocks r fresh bs cs → first_in (block_size m2) cs v ≡ first_in (block_size m) bs v
  blocks_same _ _ NoBlock = refl
  blocks_same _ _ (OneMore b c bs cs t rest) = λ k. or_first (instrs_same b.instrs c.instrs t.instrs k) (blocks_same bs cs rest k)

  pub sizes_same : (f g : Function) → TurnsBlocks r fresh f.blocks g.blocks → slot_size m2 g v ≡ slot_size m f v
  sizes_same f g t = blocks_same f.blocks g.blocks t

record IsNoting {A : Type 0} (one : A → ℕ → Option ℕ) (xs : List A) (n s : ℕ) : Type 0 where
  at : ℕ
  element : A
  stands : slice_get xs at ≡ Some element
  notes : one element n ≡ Some s

noted_by : {A : Type 0} (one : A → ℕ → Option ℕ) (xs : List A) (n s : ℕ) → first_in one xs n ≡ Some s → IsNoting one xs n s
noted_by one [] n s e = absurd (cc)
noted_by one (x ∷ xs) n s e = on (one x n) refl e (noted_by one xs n s)
  where
    on : (o : Option ℕ) → one x n ≡ o → or_first o (first_in one xs n) ≡ Some s → (first_in one xs n ≡ Some s → IsNoting one xs n s) → IsNoting one (x ∷ xs) n s
    on (Some t) d k rest = record { at = 0; element = x; stands = refl; notes = d ∙ k }
    on None d k rest = let y = rest k in record { at = suc y.at; element = y.element; stands = y.stands; notes = y.notes }

same_if : (a b : ℕ) (s t : ℕ) → (if a == b then Some t else None) ≡ Some s → Some a ≡ Some b
same_if a b s t e = on (a == b) refl e
  where
    on : (c : Bool) → (a == b) ≡ c → (if c then Some t else None) ≡ Some s → Some a ≡ Some b
    on true d k = ap Some (equal_numbers a b d)
    on false d k = absurd (cc)

alloca_made : (m : Module) (i : Instr) (n s : ℕ) → made_size m i n ≡ Some s → (result_of i ≡ Some n) × (is_call_of Intrinsic.CoroFrame i ≡ false)
alloca_made m (Instr.Alloca r ty align) n s e = (same_if r n s (size_of m ty) e, refl)
alloca_made m _ n s e = absurd (cc)

frame_ptr : (m : Module) (p : Place) (i : Instr) (v : ℕ) → is_call_of Intrinsic.CoroFrame i ≡ true → result_of i ≡ Some v → calls_otherwise m p (OfInstr i) ≡ false → instr_kind i v ≡ Some Kind.Ptr
frame_ptr m p (Instr.Call (Some n) must_tail (Some t) (Callee.Intrinsic Intrinsic.CoroFrame) args) v is e h =
    let same : n ≡ v = cc in
    let right = holds (is_result (Some Basic.Ptr) (Some t) && are_wanted (intrinsic_params Intrinsic.CoroFrame) args) h in
    ptr_kind n v t same (and_first (is_ptr t) (are_wanted (intrinsic_params Intrinsic.CoroFrame) args) right)
frame_ptr m p (Instr.Call (Some n) must_tail None (Callee.Intrinsic Intrinsic.CoroFrame) args) v is e h = absurd (cc)
frame_ptr m p (Instr.Call None must_tail ty (Callee.Intrinsic Intrinsic.CoroFrame) args) v is e h = absurd (cc)
frame_ptr m p _ v is e h = absurd (cc)

-- ---- any other function stays

pub no_follower : (m : Module) (f : Function) → Follows m f f
no_follower m f = record { renaming = none_renamed; blocks = same_blocks (λ n. value_kind f n ≡ Some Kind.Saved) f.blocks; kinds = λ v kind e. e; stays = λ v kind e. e; slots = λ v s e. refl }

-- ---- coroutines

kind_below : (g : Function) → AreApart g → (v : ℕ) (kind : Kind) → value_kind g v ≡ Some kind → v < length g.names
kind_below g h v kind e = ⊎_elim
    (λ (lt : v < length g.names). lt)
    (λ (ge : length g.names ≤ v).
    let none : value_kind g v ≡ None = kind_none g v (λ l. let lt : v < length g.names = h.below v l in omega (arith, lt, ge)) in
    absurd (cc))
    (cases_lt v (length g.names))

module _ (m : Module) (func : ℕ) (f : Function) (coroutine : f.coroutine ≡ true) (h : IsUnbroken m func f) (tabled : HasTabledLocals func f) (types : first_otherwise m func f ≡ None) where
  abbrev g1 : Function
  g1 = with_begin_name f

  abbrev r : Renaming
  r = renaming_of g1

  abbrev g : Function
  g = early_named g1

  source : AreApart f
  source = source_apart m func f coroutine h tabled

  named : AreApart g1
  named = name_apart m func f coroutine h tabled

  source_below : (v : ℕ) (kind : Kind) → value_kind f v ≡ Some kind → v < length f.names
  source_below = kind_below f source

  named_kind : (v : ℕ) (kind : Kind) → value_kind f v ≡ Some kind → value_kind g1 v ≡ Some kind
  named_kind v kind e = on (first_result Intrinsic.CoroBegin f) refl ∙ e
    where
      on : (o : Option ℕ) → first_result Intrinsic.CoroBegin f ≡ o → value_kind (if_unnamed o f) v ≡ value_kind f v
      on None d = let lt : v < length f.names = source_below v kind e in named_value_kind f v (other_number (length f.names) v (λ same. omega (arith, same, lt))) d
      on (Some n) d = refl

  saved_kind : (v : ℕ) (kind : Kind) → value_kind g1 v ≡ Some kind → value_kind g v ≡ Some kind
  saved_kind v kind e = saved_value_kind r v g1 (kind_below g1 named v kind e) ∙ e

  named_types : first_otherwise (early_module m) func g1 ≡ None
  named_types = carried none_renamed Any f g1 (calls_otherwise m) (calls_otherwise (early_module m)) (otherwise_carried m none_renamed Any f g1) func (name_as f (first_result Intrinsic.CoroBegin f)) types

  right_at : (p : Point) (i : Instr) → instr_at g1 p ≡ Some i → (q : Place) × (calls_otherwise (early_module m) q (OfInstr i) ≡ false)
  right_at p i e = (instr_place func p.block (phi_count g1 p.block + p.at), at_point (λ x. calls_otherwise (early_module m) x.0 x.1 ≡ false) func g1 p i (none_part (calls_otherwise (early_module m)) (parts_of func g1) named_types) e)

  frame_kind : (v : ℕ) → is_renamed r v ≡ true → value_kind g1 v ≡ Some Kind.Ptr
  frame_kind v e =
      let x = renamed_frame g1 v e in
      let y = right_at x.point x.instr x.stands in
      kind_made g1 named.apart x.point x.instr v x.stands x.result ∙ frame_ptr (early_module m) y.0 x.instr v x.is_call x.result y.1

  begin_kind : (v : ℕ) → is_renamed r v ≡ true → value_kind g1 r.to ≡ Some Kind.Ptr
  begin_kind v e = on (first_result Intrinsic.CoroBegin g1) refl
    where
      on : (o : Option ℕ) → first_result Intrinsic.CoroBegin g1 ≡ o → value_kind g1 r.to ≡ Some Kind.Ptr
      on None d = let t : true ≡ false = sym e ∙ ap (λ (o : Option ℕ). is_renamed (renaming_to g1 o) v) d in absurd (cc)
      on (Some n) d =
          let x = begin_of g1 n d in
          let y = right_at x.point x.instr x.stands in
          ap (value_kind g1) (to_is g1 n d) ∙ kind_made g1 named.apart x.point x.instr n x.stands x.result ∙ begin_ptr (early_module m) y.0 x.instr n x.is_call x.result y.1

  renamed_kind : (v : ℕ) (kind : Kind) → value_kind f v ≡ Some kind → value_kind g (renamed_value r v) ≡ Some kind
  renamed_kind v kind e = on (is_renamed r v) refl
    where
      on : (b : Bool) → is_renamed r v ≡ b → value_kind g (if b then r.to else v) ≡ Some kind
      on true d = saved_kind r.to Kind.Ptr (begin_kind v d) ∙ sym (frame_kind v d) ∙ named_kind v kind e
      on false d = saved_kind v kind (named_kind v kind e)

  Stands : Instr → Type 0
  Stands j = (p : Point) × (instr_at g p ≡ Some j)

  all_stand : Each (λ (c : Block). Each Stands c.instrs) g.blocks
  unfolding Stands
  all_stand = each_there (λ (c : Block). Each Stands c.instrs) g.blocks (λ k c e. each_there Stands c.instrs (λ at j d. (record { block = k; at = at }, ap (λ (o : Option Block). instr_in o at) e ∙ d)))

  save_kind : (n : ℕ) → Stands (save_call n) → value_kind g n ≡ Some Kind.Saved
  unfolding Stands
  save_kind n x =
      kind_made g (save_apart g1 r named) x.0 (save_call n) n x.1 refl
      ∙ ap (λ (b : Bool). if b then Some Kind.Saved else None) (itself n)

  slot_stays : (v s : ℕ) → slot_size m f v ≡ Some s → is_renamed r v ≡ false
  slot_stays v s e = on (is_renamed r v) refl
    where
      now : slot_size (early_module m) g1 v ≡ Some s
      now = sizes_same m none_renamed Any v f g1 (name_as f (first_result Intrinsic.CoroBegin f)) ∙ e

      on : (b : Bool) → is_renamed r v ≡ b → b ≡ false
      on false d = refl
      on true d =
          let x = noted_by (block_size (early_module m)) g1.blocks v s now in
          let y = noted_by (made_size (early_module m)) x.element.instrs v s x.notes in
          let z = alloca_made (early_module m) y.element v s y.notes in
          let p : Point = record { block = x.at; at = y.at } in
          absurd (not_frame func g1 (named_once m func f coroutine h tabled) p y.element v (ap (λ (o : Option Block). instr_in o y.at) x.stands ∙ y.stands) z.0 z.1 (renamed_frame g1 v d))

  pub follower : Follows m f g
  follower = record {
    renaming = r;
    blocks = marked_blocks r (λ n. value_kind g n ≡ Some Kind.Saved) Stands save_kind f.blocks g.blocks (turned_as f (first_result Intrinsic.CoroBegin f)) all_stand;
    kinds = renamed_kind;
    stays = λ v kind e. saved_kind v kind (named_kind v kind e);
    slots = slot_stays;
  }
