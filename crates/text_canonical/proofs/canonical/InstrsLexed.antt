-- The tokens of printed instructions.
use Rattle.std.proofs.Common.{◌≡◌, ℕ, Bool, true, false, List, [], ◌∷◌, ◌++◌, append_assoc, codes, Option, None, refl}
use Rattle.std.specs.Prelude.{Some}
use Rattle.ir_base.specs.declared.name.Name.{Name}
use Rattle.ir_base.specs.declared.ops.Flags.{Flags}
use Rattle.ir_model.specs.Ty.{Ty}
use Rattle.ir_model.specs.declared.instr.Instr.{Instr}
use Rattle.ir_model.specs.declared.operand.Operand.{Operand}
use Rattle.text_symbols.specs.declared.word.Word.{Word}
use Rattle.text_canonical.specs.canonical.Instrs.{action_text, address_text, align_text, instr_text, musttail_text, pair_text, set_by, set_text}
use Rattle.text_canonical.specs.canonical.InstrSymbols.{action_symbols, address_symbols, align_symbols, flag_symbols, flags_symbols, instr_symbols, pair_symbols, set_symbols}
use Rattle.text_canonical.specs.canonical.Marks.{word}
use Rattle.text_canonical.specs.canonical.Words.{flag_text, flags_text}
use Rattle.text_canonical.proofs.canonical.Lexed.{Lexed, empty, join, number, same_symbols, spaced, stops, then, unfree}
use Rattle.text_canonical.proofs.canonical.OperandsLexed.{arg_lexed, args_lexed, callee_lexed, local_lexed, more_args_lexed, more_args_pass, operand_lexed, result_lexed}
use Rattle.text_canonical.proofs.canonical.TypesLexed.{type_lexed}
use Rattle.text_canonical.proofs.canonical.WordsLexed.{alloca_lexed, binary_lexed, call_lexed, cast_lexed, comma_align_lexed, comma_ptr_lexed, comma_space, disjoint_lexed, equals_space, exact_lexed, getelementptr_lexed, icmp_lexed, inbounds_lexed, load_lexed, musttail_lexed, nneg_lexed, nsw_lexed, nuw_lexed, pred_lexed, round_close, round_open, select_lexed, space, store_lexed, to_lexed}
use Rattle.text_symbols.specs.declared.word.Word.TheVariants as words

-- ---- flags

pub flag_lexed : (b : Bool) (w : List ℕ) (k : Word) → Lexed false w (word k ∷ []) → Lexed false (flag_text b w) (flag_symbols b k)
flag_lexed true w k h = then space h refl
flag_lexed false w k h = empty

flag_pass : (b : Bool) (w rest : List ℕ) → stops rest ≡ true → stops (flag_text b w ++ rest) ≡ true
flag_pass true w rest h = refl
flag_pass false w rest h = h

flags_pass : (f : Flags) (rest : List ℕ) → stops rest ≡ true → stops (flags_text f ++ rest) ≡ true
flags_pass f rest h =
    let d = flag_pass f.disjoint (codes "disjoint") rest h in
    let e = flag_pass f.exact (codes "exact") (flag_text f.disjoint (codes "disjoint") ++ rest) d in
    let s = flag_pass f.nsw (codes "nsw") (flag_text f.exact (codes "exact") ++ (flag_text f.disjoint (codes "disjoint") ++ rest)) e in
    simp append_assoc (flag_pass f.nuw (codes "nuw") (flag_text f.nsw (codes "nsw") ++ (flag_text f.exact (codes "exact") ++ (flag_text f.disjoint (codes "disjoint") ++ rest))) s)

flags_lexed : (f : Flags) → Lexed false (flags_text f) (flags_symbols f)
flags_lexed f =
    join (join (join (flag_lexed f.nuw (codes "nuw") words.Nuw nuw_lexed)
    (flag_lexed f.nsw (codes "nsw") words.Nsw nsw_lexed) (flag_pass f.nsw (codes "nsw")))
    (flag_lexed f.exact (codes "exact") words.Exact exact_lexed) (flag_pass f.exact (codes "exact")))
    (flag_lexed f.disjoint (codes "disjoint") words.Disjoint disjoint_lexed) (flag_pass f.disjoint (codes "disjoint"))

-- ---- parts of instructions

set_lexed : (names : List Name) (o : Option ℕ) → Lexed true (set_text names o) (set_symbols names o)
set_lexed names None = empty
set_lexed names (Some id) = then (local_lexed names id) equals_space refl

pair_lexed : (names : List Name) (t : Ty) (left right : Operand) → Lexed false (pair_text names t left right) (pair_symbols names t left right)
pair_lexed names t left right =
    same_symbols (simp append_assoc) (then (then (then (spaced (then space (type_lexed t) refl) space refl) (operand_lexed names left) refl) comma_space refl) (operand_lexed names right) refl)

address_lexed : (names : List Name) (x : Operand) → Lexed false (address_text names x) (address_symbols names x)
address_lexed names x = then comma_ptr_lexed (operand_lexed names x) refl

pub align_lexed : (n : ℕ) → Lexed false (align_text n) (align_symbols n)
align_lexed n = then comma_align_lexed (number n) refl

musttail_is : (b : Bool) → Lexed true (musttail_text b) (flag_symbols b words.Musttail)
musttail_is true = musttail_lexed
musttail_is false = empty

-- ---- instructions

action_lexed : (names : List Name) (i : Instr) → Lexed false (action_text names i) (action_symbols names i)
action_lexed names (Instr.Binary result op flags ty left right) = then (join (binary_lexed op) (flags_lexed flags) (flags_pass flags)) (pair_lexed names ty left right) refl
action_lexed names (Instr.Icmp result pred ty left right) = then (then icmp_lexed (pred_lexed pred) refl) (pair_lexed names ty left right) refl
action_lexed names (Instr.Select result cond then_value else_value) =
    same_symbols (simp append_assoc) (then (then (then (then (then select_lexed (operand_lexed names cond) refl) comma_space refl) (arg_lexed names then_value) refl) comma_space refl) (arg_lexed names else_value) refl)
action_lexed names (Instr.Cast result op nneg arg to) =
    same_symbols (simp append_assoc) (then (then (then (spaced (join (cast_lexed op) (flag_lexed nneg (codes "nneg") words.Nneg nneg_lexed) (flag_pass nneg (codes "nneg"))) space refl) (arg_lexed names arg) refl) to_lexed refl) (type_lexed to) refl)
action_lexed names (Instr.Alloca result ty align) = then (then alloca_lexed (type_lexed ty) refl) (align_lexed align) refl
action_lexed names (Instr.Load result ty address align) = then (then (then load_lexed (type_lexed ty) refl) (address_lexed names address) refl) (align_lexed align) refl
action_lexed names (Instr.Store arg address align) = then (then (then store_lexed (arg_lexed names arg) refl) (address_lexed names address) refl) (align_lexed align) refl
action_lexed names (Instr.Gep result inbounds ty base indices) =
    join (then (then (spaced (join getelementptr_lexed (flag_lexed inbounds (codes "inbounds") words.Inbounds inbounds_lexed) (flag_pass inbounds (codes "inbounds"))) space refl) (type_lexed ty) refl) (address_lexed names base) refl) (more_args_lexed names indices) (more_args_pass names indices)
action_lexed names (Instr.Call result must_tail ty callee args) =
    same_symbols (simp append_assoc) (unfree (then (then (then (then (spaced (then (then (musttail_is must_tail) call_lexed refl) (result_lexed ty) refl) space refl) (callee_lexed names callee) refl) round_open refl) (args_lexed names args) refl) round_close refl))

pub instr_lexed : (names : List Name) (i : Instr) → Lexed false (instr_text names i) (instr_symbols names i)
instr_lexed names i = then (set_lexed names (set_by i)) (action_lexed names i) refl
