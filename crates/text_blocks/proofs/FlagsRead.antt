-- Operations with their flags, and casts: what is read is of the grammar, and what is of the grammar is read.
use Rattle.std.proofs.Common.{◌≡◌, Bool, true, false, ◌||◌, List, [], ◌∷◌, refl, sym, ap, ◌∙◌}
use Rattle.ir_base.specs.declared.ops.BinOp.{BinOp}
use Rattle.ir_base.specs.declared.ops.BinOp.TheVariants as ops
use Rattle.ir_base.specs.declared.ops.CastOp.{CastOp}
use Rattle.ir_base.specs.declared.ops.CastOp.TheVariants as casts
use Rattle.ir_base.specs.declared.ops.Flags.{Flags}
use Rattle.ir_model.specs.Ty.{Ty, int, ptr, token, array, structure, named}
use Rattle.text_symbols.specs.declared.sym.Sym.{Sym}
use Rattle.text_symbols.specs.declared.sym.Sym.TheVariants as syms
use Rattle.text_symbols.specs.declared.word.Word.TheVariants as words
use Rattle.text_grammar.specs.Phrases.{each, flag}
use Rattle.text_grammar.specs.Types.{IsType}
use Rattle.text_grammar.specs.Instructions.{Wrap, nuw, nsw, IsWrap, has_nuw, has_nsw, AreWraps, MayBeExact, MayBeDisjoint, WithoutFlags, AreFlags, IsCast}
use Rattle.text_blocks.specs.Instrs.{no_flags, wrap_flags, exact_flag, disjoint_flag, flags_at, nneg_at, inbounds_at}

-- ---- found

abbrev added : Flags → List Wrap → Flags
added f ws = record f { nuw = f.nuw || has_nuw ws; nsw = f.nsw || has_nsw ws }

or_true : (b : Bool) → (b || true) ≡ true
or_true true = refl
or_true false = refl

added_nuw : (f : Flags) (ws : List Wrap) → added (record f { nuw = true }) ws ≡ added f (nuw ∷ ws)
added_nuw f ws = ap (λ (b : Bool). record f { nuw = b; nsw = f.nsw || has_nsw ws }) (sym (or_true f.nuw))

added_nsw : (f : Flags) (ws : List Wrap) → added (record f { nsw = true }) ws ≡ added f (nsw ∷ ws)
added_nsw f ws = ap (λ (b : Bool). record f { nuw = f.nuw || has_nuw ws; nsw = b }) (sym (or_true f.nsw))

or_false : (b : Bool) → b ≡ (b || false)
or_false true = refl
or_false false = refl

added_none : (f : Flags) → f ≡ added f []
added_none f = ap (λ (b : Bool). record f { nuw = b }) (or_false f.nuw) ∙ ap (λ (b : Bool). record f { nuw = f.nuw || false; nsw = b }) (or_false f.nsw)

abbrev Wraps : Flags → List Sym → Flags × List Sym → Type 0
Wraps f ts r = (ws : List Wrap) × (r.0 ≡ added f ws) × each IsWrap ws ts r.1

wraps_found : (ts : List Sym) (f : Flags) → Wraps f ts (wrap_flags ts f)
wraps_found (syms.Word words.Nuw ∷ ts) f =
    let r = wraps_found ts (record f { nuw = true }) in (nuw ∷ r.0, r.1 ∙ added_nuw f r.0, (ts, refl, r.2))
wraps_found (syms.Word words.Nsw ∷ ts) f =
    let r = wraps_found ts (record f { nsw = true }) in (nsw ∷ r.0, r.1 ∙ added_nsw f r.0, (ts, refl, r.2))
wraps_found _ f = ([], added_none f, refl)

exact_found : (ts : List Sym) → MayBeExact (exact_flag ts).0 ts (exact_flag ts).1
exact_found (syms.Word words.Exact ∷ ts) = (true, refl, refl)
exact_found _ = (false, refl, refl)

disjoint_found : (ts : List Sym) → MayBeDisjoint (disjoint_flag ts).0 ts (disjoint_flag ts).1
disjoint_found (syms.Word words.Disjoint ∷ ts) = (true, refl, refl)
disjoint_found _ = (false, refl, refl)

pub flags_found : (op : BinOp) (ts : List Sym) → AreFlags op (flags_at op ts).0 ts (flags_at op ts).1
flags_found ops.Add ts = wraps_found ts no_flags
flags_found ops.Sub ts = wraps_found ts no_flags
flags_found ops.Mul ts = wraps_found ts no_flags
flags_found ops.Shl ts = wraps_found ts no_flags
flags_found ops.UDiv ts = exact_found ts
flags_found ops.SDiv ts = exact_found ts
flags_found ops.LShr ts = exact_found ts
flags_found ops.AShr ts = exact_found ts
flags_found ops.Or ts = disjoint_found ts
flags_found ops.URem ts = (refl, refl)
flags_found ops.SRem ts = (refl, refl)
flags_found ops.And ts = (refl, refl)
flags_found ops.Xor ts = (refl, refl)

pub cast_flag_found : (op : CastOp) (ts : List Sym) → IsCast op (nneg_at op ts).0 (syms.Word (words.Cast op) ∷ ts) (nneg_at op ts).1
cast_flag_found casts.Zext (syms.Word words.Nneg ∷ ts) = (syms.Word words.Nneg ∷ ts, refl, refl)
cast_flag_found casts.Zext ts = (ts, refl, refl)
cast_flag_found casts.Trunc ts = (refl, refl)
cast_flag_found casts.Sext ts = (refl, refl)

pub inbounds_found : (ts : List Sym) → flag words.Inbounds (inbounds_at ts).0 ts (inbounds_at ts).1
inbounds_found (syms.Word words.Inbounds ∷ ts) = refl
inbounds_found _ = refl

-- ---- again

-- no flag at the front
abbrev pub NoFlag : List Sym → Type 0
NoFlag (syms.Word words.Nuw ∷ ts) = ⊥
NoFlag (syms.Word words.Nsw ∷ ts) = ⊥
NoFlag (syms.Word words.Exact ∷ ts) = ⊥
NoFlag (syms.Word words.Disjoint ∷ ts) = ⊥
NoFlag (syms.Word words.Nneg ∷ ts) = ⊥
NoFlag (syms.Word words.Inbounds ∷ ts) = ⊥
NoFlag _ = Unit {0}

pub type_no_flag : (t : Ty) (ts rest : List Sym) → IsType t ts rest → NoFlag ts
type_no_flag (int n) ts rest h = rw h.2 tt
type_no_flag ptr ts rest h = rw h tt
type_no_flag token ts rest h = rw h tt
type_no_flag (array n t) ts rest h = rw h.1 tt
type_no_flag (structure fs) ts rest h = rw h.1 tt
type_no_flag (named n) ts rest h = rw h tt

no_wrap : (ts : List Sym) (f : Flags) → NoFlag ts → wrap_flags ts f ≡ (f, ts)
no_wrap (syms.Word words.Nuw ∷ ts) f h = absurd h
no_wrap (syms.Word words.Nsw ∷ ts) f h = absurd h
no_wrap _ f h = refl

wraps_again : (ws : List Wrap) (f : Flags) (ts rest : List Sym) → each IsWrap ws ts rest → NoFlag rest → wrap_flags ts f ≡ (added f ws, rest)
wraps_again [] f ts rest h none = ap (λ (l : List Sym). wrap_flags l f) h ∙ no_wrap rest f none ∙ ap (λ (g : Flags). (g, rest)) (added_none f)
wraps_again (nuw ∷ ws) f ts rest h none =
    ap (λ (l : List Sym). wrap_flags l f) h.1 ∙ wraps_again ws (record f { nuw = true }) h.0 rest h.2 none ∙ ap (λ (g : Flags). (g, rest)) (added_nuw f ws)
wraps_again (nsw ∷ ws) f ts rest h none =
    ap (λ (l : List Sym). wrap_flags l f) h.1 ∙ wraps_again ws (record f { nsw = true }) h.0 rest h.2 none ∙ ap (λ (g : Flags). (g, rest)) (added_nsw f ws)

wrapped_again : (f : Flags) (ts rest : List Sym) → AreWraps f ts rest → NoFlag rest → wrap_flags ts no_flags ≡ (f, rest)
wrapped_again f ts rest h none = wraps_again h.0 no_flags ts rest h.2 none ∙ ap (λ (g : Flags). (g, rest)) (sym h.1)

no_exact : (ts : List Sym) → NoFlag ts → exact_flag ts ≡ (no_flags, ts)
no_exact (syms.Word words.Exact ∷ ts) h = absurd h
no_exact _ h = refl

exact_again : (f : Flags) (ts rest : List Sym) → MayBeExact f ts rest → NoFlag rest → exact_flag ts ≡ (f, rest)
exact_again f ts rest (true, e, h) none = ap exact_flag h ∙ ap (λ (g : Flags). (g, rest)) (sym e)
exact_again f ts rest (false, e, h) none = ap exact_flag h ∙ no_exact rest none ∙ ap (λ (g : Flags). (g, rest)) (sym e)

no_disjoint : (ts : List Sym) → NoFlag ts → disjoint_flag ts ≡ (no_flags, ts)
no_disjoint (syms.Word words.Disjoint ∷ ts) h = absurd h
no_disjoint _ h = refl

disjoint_again : (f : Flags) (ts rest : List Sym) → MayBeDisjoint f ts rest → NoFlag rest → disjoint_flag ts ≡ (f, rest)
disjoint_again f ts rest (true, e, h) none = ap disjoint_flag h ∙ ap (λ (g : Flags). (g, rest)) (sym e)
disjoint_again f ts rest (false, e, h) none = ap disjoint_flag h ∙ no_disjoint rest none ∙ ap (λ (g : Flags). (g, rest)) (sym e)

without_again : (f : Flags) (ts rest : List Sym) → WithoutFlags f ts rest → ◌≡◌ {A = Flags × List Sym} (no_flags, ts) (f, rest)
without_again f ts rest h = ap (λ (g : Flags). (g, ts)) (sym h.0) ∙ ap (λ (l : List Sym). (f, l)) h.1

pub flags_again : (op : BinOp) (f : Flags) (ts rest : List Sym) → AreFlags op f ts rest → NoFlag rest → flags_at op ts ≡ (f, rest)
flags_again ops.Add f ts rest h none = wrapped_again f ts rest h none
flags_again ops.Sub f ts rest h none = wrapped_again f ts rest h none
flags_again ops.Mul f ts rest h none = wrapped_again f ts rest h none
flags_again ops.Shl f ts rest h none = wrapped_again f ts rest h none
flags_again ops.UDiv f ts rest h none = exact_again f ts rest h none
flags_again ops.SDiv f ts rest h none = exact_again f ts rest h none
flags_again ops.LShr f ts rest h none = exact_again f ts rest h none
flags_again ops.AShr f ts rest h none = exact_again f ts rest h none
flags_again ops.Or f ts rest h none = disjoint_again f ts rest h none
flags_again ops.URem f ts rest h none = without_again f ts rest h
flags_again ops.SRem f ts rest h none = without_again f ts rest h
flags_again ops.And f ts rest h none = without_again f ts rest h
flags_again ops.Xor f ts rest h none = without_again f ts rest h

no_nneg : (op : CastOp) (ts : List Sym) → NoFlag ts → nneg_at op ts ≡ (false, ts)
no_nneg casts.Zext (syms.Word words.Nneg ∷ ts) h = absurd h
no_nneg casts.Zext _ h = refl
no_nneg casts.Trunc ts h = refl
no_nneg casts.Sext ts h = refl

-- behind the word of a cast
pub cast_flag_again : (op : CastOp) (nneg : Bool) (ts us rest : List Sym) → IsCast op nneg ts rest → ts ≡ syms.Word (words.Cast op) ∷ us → NoFlag rest → nneg_at op us ≡ (nneg, rest)
cast_flag_again casts.Zext true ts us rest h e none = let same : us ≡ h.0 = cc in ap (nneg_at casts.Zext) (same ∙ h.2)
cast_flag_again casts.Zext false ts us rest h e none = let same : us ≡ h.0 = cc in ap (nneg_at casts.Zext) (same ∙ h.2) ∙ no_nneg casts.Zext rest none
cast_flag_again casts.Trunc nneg ts us rest h e none = let same : us ≡ rest = cc in ap (nneg_at casts.Trunc) same ∙ ap (λ (b : Bool). (b, rest)) (sym h.0)
cast_flag_again casts.Sext nneg ts us rest h e none = let same : us ≡ rest = cc in ap (nneg_at casts.Sext) same ∙ ap (λ (b : Bool). (b, rest)) (sym h.0)

no_inbounds : (ts : List Sym) → NoFlag ts → inbounds_at ts ≡ (false, ts)
no_inbounds (syms.Word words.Inbounds ∷ ts) h = absurd h
no_inbounds _ h = refl

pub inbounds_again : (b : Bool) (ts rest : List Sym) → flag words.Inbounds b ts rest → NoFlag rest → inbounds_at ts ≡ (b, rest)
inbounds_again true ts rest h none = ap inbounds_at h
inbounds_again false ts rest h none = ap inbounds_at h ∙ no_inbounds rest none
