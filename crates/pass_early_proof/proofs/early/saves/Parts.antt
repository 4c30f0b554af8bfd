-- What writing saves out leaves as it is: functions by their names and types, markers, final suspends, and what stands at a place.
use Rattle.std.proofs.Common.{◌≡◌, ℕ, suc, ◌+◌, ◌<◌, ◌≤◌, ⊎_elim, Bool, true, false, List, [], ◌∷◌, length, refl, sym, ap, ◌∙◌, arith}
use Rattle.std.proofs.lemmas.Bool.{cases_lt}
use Rattle.std.proofs.lemmas.Option.{slice_get-map}
use Rattle.std.specs.List.{list_any}
use Rattle.std.specs.Prelude.{Some, None, Option, map, option_map, slice_get, unwrap_or, if◌then◌else◌, ◌==◌, ◌||◌}
use Rattle.rule_laws.specs.ir_base.declared.name.Name.{Name}
use Rattle.pass_early.specs.Early.{save_call, saved}
use Rattle.ir_model.specs.Names.{first_where, function_at, function_named, no_function, same_name}
use Rattle.ir_model.specs.Ty.{Ty}
use Rattle.ir_model.specs.declared.instr.Instr.{Instr}
use Rattle.ir_model.specs.declared.module.Block.{Block}
use Rattle.ir_model.specs.declared.module.Function.{Function}
use Rattle.ir_model.specs.declared.module.Module.{Module}
use Rattle.ir_model.specs.declared.operand.Arg.{Arg}
use Rattle.rule_laws.proofs.ir_paths.Search.{eq_from, eq_itself}
use Rattle.rule_laws.specs.ir_paths.Windows.{call_operand, instr_at, points_where}
use Rattle.rule_laws.specs.ir_paths.declared.point.Point.{Point}
use Rattle.rule_laws.specs.run_step.Step.{fetch, fetch_in, fetch_or, fits_function, has_markers, is_marker_of}
use Rattle.rule_laws.specs.run_source_tables.Given.{has_final, is_final, is_final_call, is_true}
use Rattle.rule_laws.proofs.ir_laws.facts.Truth.{same_truth}
use Rattle.pass_early_proof.proofs.early.saves.Behind.{any_saved, suspends_moved}
use Rattle.pass_early_proof.proofs.early.saves.Blocks.{get_block, instrs_saved}
use Rattle.pass_early_proof.proofs.early.saves.Instrs.{back_end, back_inside, back_past, get_then, instr_then, name_at}
use Rattle.pass_early_proof.proofs.early.saves.Tokens.{bare_is}
use Rattle.rule_laws.proofs.ir_laws.paths.expanded.Windows.{instr_at_is}
use Rattle.pass_early_proof.specs.early.saves.SavesWritten.{behind_saves, is_bare, saved_block, saved_blocks, saved_function, saves_written, with_save, with_saves}
use Rattle.pass_early_proof.specs.early.saves.Spots.{back_of, number_of_block, own_saves, place_in}
use Rattle.rule_laws.specs.ir_laws.facts.expanded.Spots.{instrs_in}
use Rattle.rule_laws.proofs.ir_laws.facts.Members.{each_unit as unit}

-- ---- functions

pub function_saved : (m : Module) (func : ℕ) → function_at (saves_written m) func ≡ saved_function (function_at m func)
function_saved m func =
    ap (λ (o : Option Function). unwrap_or o no_function) (slice_get-map saved_function m.functions func) ∙ on (slice_get m.functions func)
  where
    on : (o : Option Function) → unwrap_or (option_map saved_function o) no_function ≡ saved_function (unwrap_or o no_function)
    on None = refl
    on (Some f) = refl

first_saved : (n : Name) (fs : List Function) → first_where (λ (f : Function). same_name f.name n) (map saved_function fs) ≡ first_where (λ (f : Function). same_name f.name n) fs
first_saved n [] = refl
first_saved n (f ∷ fs) = ap (λ (o : Option ℕ). if same_name f.name n then Some 0 else option_map suc o) (first_saved n fs)

pub named_saved : (m : Module) (n : Name) → function_named (saves_written m) n ≡ function_named m n
named_saved m n = first_saved n m.functions

pub fits_saved : (m : Module) (ty : Option Ty) (args : List Arg) (func : ℕ) → fits_function ty args (slice_get (saves_written m).functions func) ≡ fits_function ty args (slice_get m.functions func)
fits_saved m ty args func =
    ap (fits_function ty args) (slice_get-map saved_function m.functions func) ∙ on (slice_get m.functions func)
  where
    on : (o : Option Function) → fits_function ty args (option_map saved_function o) ≡ fits_function ty args o
    on None = refl
    on (Some f) = refl

-- ---- markers

marker_group : (name : ℕ) (c : Bool) (n : ℕ) (i : Instr) → list_any (is_marker_of name) (with_save c n i) ≡ is_marker_of name i
marker_group name c n i = on (is_bare c i) refl
  where
    alone : (a : Bool) → (a || false) ≡ a
    alone true = refl
    alone false = refl

    on : (b : Bool) → is_bare c i ≡ b → list_any (is_marker_of name) (if b then save_call n ∷ saved n i ∷ [] else i ∷ []) ≡ is_marker_of name i
    on true e =
        let is = bare_is c i e in
        ap (λ (x : Instr). list_any (is_marker_of name) (save_call n ∷ saved n x ∷ [])) is.is ∙ sym (ap (is_marker_of name) is.is)
    on false e = alone (is_marker_of name i)

markers_in : (name : ℕ) (c : Bool) (n : ℕ) (bs : List Block) → list_any (λ (b : Block). list_any (is_marker_of name) b.instrs) (saved_blocks c n bs) ≡ list_any (λ (b : Block). list_any (is_marker_of name) b.instrs) bs
markers_in name c n [] = refl
markers_in name c n (b ∷ bs) =
    let first = any_saved c (is_marker_of name) (is_marker_of name) 0 (λ i. Unit {0}) (λ k i le p. marker_group name c k i) b.instrs (unit b.instrs) n (omega arith) in
    let rest = markers_in name c (behind_saves c n b.instrs) bs in
    λ i. first i || rest i

pub markers_saved : (f : Function) (name : ℕ) → has_markers (saved_function f) name ≡ has_markers f name
markers_saved f name = markers_in name f.coroutine (length f.names) f.blocks

-- ---- what stands at a place

same_number : (a b k l : ℕ) → (a ≡ b → k ≡ l) → (k ≡ l → a ≡ b) → (k == l) ≡ (a == b)
same_number a b k l h j = same_truth (k == l) (a == b)
    (λ e. ap (λ (x : ℕ). x == b) (j (eq_from k l e)) ∙ eq_itself b)
    (λ e. ap (λ (x : ℕ). x == l) (h (eq_from a b e)) ∙ eq_itself l)

module _ (f : Function) where
  abbrev number : ℕ → ℕ
  number block = number_of_block f.coroutine block (length f.names) f.blocks

  abbrev here : Point → Option Instr
  here p = slice_get (instrs_in (slice_get f.blocks p.block)) p.at

  -- the back of a place is behind the last instruction where the place is
  end_same : (at n : ℕ) (is : List Instr) → (place_in f.coroutine at n is + own_saves f.coroutine (slice_get is at) == length (with_saves f.coroutine n is)) ≡ (at == length is)
  end_same at n is = same_number at (length is) (place_in f.coroutine at n is + own_saves f.coroutine (slice_get is at)) (length (with_saves f.coroutine n is)) (back_end f.coroutine at n is) home
    where
      home : place_in f.coroutine at n is + own_saves f.coroutine (slice_get is at) ≡ length (with_saves f.coroutine n is) → at ≡ length is
      home e = ⊎_elim
          (λ (lt : at < length is). let inside = back_inside f.coroutine at n is lt in absurd (omega (arith, inside, e)))
          (λ (ge : length is ≤ at). ⊎_elim
          (λ (lt : length is < at). let past = back_past f.coroutine at n is lt in absurd (omega (arith, past, e)))
          (λ (le : at ≤ length is). omega arith)
          (cases_lt (length is) at))
          (cases_lt at (length is))

  -- what stands at the back of a place
  abbrev then_at : Point → Option Instr
  then_at p = instr_then f.coroutine p.at (number p.block) (instrs_in (slice_get f.blocks p.block)) (here p)

  pub fetch_back : (p : Point) (b : Block) → slice_get f.blocks p.block ≡ Some b → fetch (saved_function f) p.block (back_of f p).at ≡ fetch_or (then_at p) (p.at == length b.instrs) b.term
  fetch_back p b e =
      ap (λ (o : Option Block). fetch_in o (back_of f p).at) (get_block f.coroutine p.block (length f.names) f.blocks ∙ ap (option_map (saved_block f.coroutine (number p.block))) e)
      ∙ ap (λ (is : List Instr). fetch_or (slice_get (with_saves f.coroutine (number p.block) b.instrs) (to is)) (to is == length (with_saves f.coroutine (number p.block) b.instrs)) b.term) instrs
      ∙ ap (λ (t : Bool). fetch_or (slice_get (with_saves f.coroutine (number p.block) b.instrs) (to b.instrs)) t b.term) (end_same p.at (number p.block) b.instrs)
      ∙ ap (λ (o : Option Instr). fetch_or o (p.at == length b.instrs) b.term) (get_then f.coroutine p.at (number p.block) b.instrs)
      ∙ ap (λ (is : List Instr). fetch_or (instr_then f.coroutine p.at (number p.block) is (slice_get is p.at)) (p.at == length b.instrs) b.term) (sym instrs)
    where
      instrs : instrs_in (slice_get f.blocks p.block) ≡ b.instrs
      instrs = ap instrs_in e

      to : List Instr → ℕ
      to is = place_in f.coroutine p.at (number p.block) is + own_saves f.coroutine (slice_get is p.at)

  -- ---- final suspends

  final_then : (p : Point) (o : Option Instr) → is_final_call (instr_then f.coroutine p.at (number p.block) (instrs_in (slice_get f.blocks p.block)) o) ≡ is_final_call o
  final_then p None = refl
  final_then p (Some i) = on (is_bare f.coroutine i) refl
    where
      on : (b : Bool) → is_bare f.coroutine i ≡ b → is_true (call_operand (if b then saved (name_at f.coroutine p.at (number p.block) (instrs_in (slice_get f.blocks p.block))) i else i) 1) ≡ is_true (call_operand i 1)
      on true e =
          let is = bare_is f.coroutine i e in
          ap (λ (x : Instr). is_true (call_operand (saved (name_at f.coroutine p.at (number p.block) (instrs_in (slice_get f.blocks p.block))) x) 1)) is.is
          ∙ sym (ap (λ (x : Instr). is_true (call_operand x 1)) is.is)
      on false e = refl

  pub at_back : (p : Point) → instr_at (saved_function f) (back_of f p) ≡ then_at p
  at_back p =
      instr_at_is (slice_get (saved_function f).blocks p.block) (back_of f p).at
      ∙ ap (λ (is : List Instr). slice_get is (back_of f p).at) (instrs_saved f.coroutine p.block (length f.names) f.blocks)
      ∙ get_then f.coroutine p.at (number p.block) (instrs_in (slice_get f.blocks p.block))

  pub final_saved : (p : Point) → is_final (saved_function f) (back_of f p) ≡ is_final f p
  final_saved p =
      ap is_final_call (at_back p) ∙ final_then p (here p) ∙ ap is_final_call (sym (instr_at_is (slice_get f.blocks p.block) p.at))

  any_back : (ps : List Point) → list_any (is_final (saved_function f)) (map (back_of f) ps) ≡ list_any (is_final f) ps
  any_back [] = refl
  any_back (p ∷ ps) =
      let rest = any_back ps in
      λ i. final_saved p i || rest i

  pub has_final_saved : has_final (saved_function f) ≡ has_final f
  has_final_saved = ap (list_any (is_final (saved_function f))) (suspends_moved f) ∙ any_back (points_where _ f)
