-- A phrase that stands in a text, and the same phrase as it is printed.
use Rattle.std.proofs.Common.{◌≡◌, ◌<◌, ◌^◌, inl, inr, List, [], ◌∷◌, ◌++◌, append_assoc, Option, None, refl, sym, ap, subst}
use Rattle.std.specs.Prelude.{Some}
use Rattle.ir_base.specs.declared.name.Name.{Name}
use Rattle.text_names.specs.Spelling.{IsName}
use Rattle.text_symbols.specs.declared.sym.Sym.{Sym}
use Rattle.text_canonical.specs.canonical.Written.{AreWritten}
use Rattle.text_grammar.specs.Phrases.{Phrase, Naming, Locals, ◌⨾◌, ◌∥◌, nothing, each, these, plain}
use Rattle.text_symbols.specs.declared.sym.Sym.TheVariants as syms

-- ---- symbols of a text

-- where there is a name it is one
abbrev pub IsNamedSoundly : Option Name → Type 0
IsNamedSoundly (Some n) = IsName n
IsNamedSoundly None = Unit {0}

-- names are names, and numbers below 2^64
abbrev pub IsSound : Sym → Type 0
IsSound (syms.Label n) = IsNamedSoundly n
IsSound (syms.Word w) = Unit {0}
IsSound (syms.Int n) = n < 2 ^ 64
IsSound (syms.Negative n) = n < 2 ^ 64
IsSound syms.LongInt = Unit {0}
IsSound syms.Str = Unit {0}
IsSound (syms.Local n) = IsNamedSoundly n
IsSound (syms.Global n) = IsNamedSoundly n
IsSound (syms.Group g) = Unit {0}
IsSound syms.Meta = Unit {0}
IsSound (syms.Mark m) = Unit {0}

abbrev pub AreSound : List Sym → Type 0
AreSound [] = Unit {0}
AreSound (s ∷ ss) = IsSound s × AreSound ss

pub sound_behind : (xs ys : List Sym) → AreSound (xs ++ ys) → AreSound ys
sound_behind [] ys h = h
sound_behind (x ∷ xs) ys h = sound_behind xs ys h.1

pub written_both : (xs ys : List Sym) → AreWritten xs → AreWritten ys → AreWritten (xs ++ ys)
written_both [] ys h k = k
written_both (x ∷ xs) ys h k = (h.0, written_both xs ys h.1 k)

-- ---- phrases

-- The phrase stood in a text before the rest; these symbols are how it is printed.
pub record Again (P : Phrase) (ss ts rest : List Sym) : Type 0 where
  pub left : AreSound ts → AreSound rest
  pub written : AreSound ts → AreWritten ss
  pub again : (behind : List Sym) → P (ss ++ behind) behind

pub seq : {P Q : Phrase} {xs ys ts m rest : List Sym} → Again P xs ts m → Again Q ys m rest → Again (P ⨾ Q) (xs ++ ys) ts rest
seq {P} {Q} {xs} {ys} {ts} {m} {rest} a b = record {
  left = λ h. b.left (a.left h);
  written = λ h. written_both xs ys (a.written h) (b.written (a.left h));
  again = λ behind. (ys ++ behind, subst (λ (l : List Sym). P l (ys ++ behind)) (sym (append_assoc xs ys behind)) (a.again (ys ++ behind)), b.again behind);
}

pub same : {P : Phrase} {xs ys ts rest : List Sym} → xs ≡ ys → Again P xs ts rest → Again P ys ts rest
same {P} {xs} {ys} {ts} {rest} e a = subst (λ (l : List Sym). Again P l ts rest) e a

pub these_again : (ws ts rest : List Sym) → ts ≡ ws ++ rest → (AreSound (ws ++ rest) → AreWritten ws) → Again (these ws) ws ts rest
these_again ws ts rest e f = record {
  left = λ h. sound_behind ws rest (subst AreSound e h);
  written = λ h. f (subst AreSound e h);
  again = λ behind. refl;
}

-- symbols that can be written in any case
pub fixed : (ws ts rest : List Sym) → AreWritten ws → ts ≡ ws ++ rest → Again (these ws) ws ts rest
fixed ws ts rest w e = these_again ws ts rest e (λ h. w)

pub first_of : {P Q : Phrase} {ss ts rest : List Sym} → Again P ss ts rest → Again (P ∥ Q) ss ts rest
first_of a = record { left = a.left; written = a.written; again = λ behind. inl (a.again behind) }

pub nothing_again : {ts rest : List Sym} → ts ≡ rest → Again nothing [] ts rest
nothing_again e = record { left = λ h. subst AreSound e h; written = λ h. tt; again = λ behind. refl }

-- ---- phrases that aren't printed

-- what is left behind a phrase is as sound as what was there
abbrev pub Leaves : Phrase → Type 0
Leaves P = (ts rest : List Sym) → P ts rest → AreSound ts → AreSound rest

pub leaves_these : (ws : List Sym) → Leaves (these ws)
leaves_these ws ts rest e h = sound_behind ws rest (subst AreSound e h)

pub leaves_nothing : Leaves nothing
leaves_nothing ts rest e h = subst AreSound e h

pub leaves_seq : (P Q : Phrase) → Leaves P → Leaves Q → Leaves (P ⨾ Q)
leaves_seq P Q p q ts rest d h = q d.0 rest d.2 (p ts d.0 d.1 h)

pub leaves_or : (P Q : Phrase) → Leaves P → Leaves Q → Leaves (P ∥ Q)
leaves_or P Q p q ts rest (inl d) h = p ts rest d h
leaves_or P Q p q ts rest (inr d) h = q ts rest d h

pub leaves_each : {A : Type 0} (P : A → Phrase) → ((x : A) → Leaves (P x)) → (xs : List A) → Leaves (each P xs)
leaves_each P f [] ts rest e h = subst AreSound e h
leaves_each P f (x ∷ xs) ts rest d h = leaves_each P f xs d.0 rest d.2 (f x ts d.0 d.1 h)

-- a phrase that may be left out, and isn't printed
pub left_out : {P : Phrase} {ts rest : List Sym} → Leaves P → P ts rest → ((behind : List Sym) → P behind behind) → Again P [] ts rest
left_out {P} {ts} {rest} l d f = record { left = l ts rest d; written = λ h. tt; again = f }

-- ---- inside a function

-- the function's names are these and maybe more
pub record Extends (names ns : List Name) : Type 0 where
  pub more : List Name
  pub is : names ≡ ns ++ more

-- The same for a phrase inside a function with these names.
pub record AgainIn (names : List Name) (P : Naming) (ss : List Sym) (s end : Locals) : Type 0 where
  pub grows : Extends names end.0 → Extends names s.0
  pub left : AreSound s.1 → AreSound end.1
  pub written : AreSound s.1 → Extends names end.0 → AreWritten ss
  pub again : Extends names end.0 → (behind : List Sym) → P (s.0, ss ++ behind) (end.0, behind)

pub seq_in : {names : List Name} {P Q : Naming} {xs ys : List Sym} {s m end : Locals} → AgainIn names P xs s m → AgainIn names Q ys m end → AgainIn names (P ⨾ Q) (xs ++ ys) s end
seq_in {names} {P} {Q} {xs} {ys} {s} {m} {end} a b = record {
  grows = λ e. a.grows (b.grows e);
  left = λ h. b.left (a.left h);
  written = λ h e. written_both xs ys (a.written h (b.grows e)) (b.written (a.left h) e);
  again = λ e behind. ((m.0, ys ++ behind), subst (λ (l : List Sym). P (s.0, l) (m.0, ys ++ behind)) (sym (append_assoc xs ys behind)) (a.again (b.grows e) (ys ++ behind)), b.again e behind);
}

pub same_in : {names : List Name} {P : Naming} {xs ys : List Sym} {s end : Locals} → xs ≡ ys → AgainIn names P xs s end → AgainIn names P ys s end
same_in {names} {P} {xs} {ys} {s} {end} e a = subst (λ (l : List Sym). AgainIn names P l s end) e a

pub plain_in : {names : List Name} {P : Phrase} {ss : List Sym} {s end : Locals} → s.0 ≡ end.0 → Again P ss s.1 end.1 → AgainIn names (plain P) ss s end
plain_in {names} {P} {ss} {s} {end} e a = record {
  grows = λ x. subst (λ (l : List Name). Extends names l) (sym e) x;
  left = a.left;
  written = λ h x. a.written h;
  again = λ x behind. (e, a.again behind);
}

pub nothing_in : {names : List Name} {s end : Locals} → s ≡ end → AgainIn names nothing [] s end
nothing_in {names} {s} {end} e = record {
  grows = λ x. subst (λ (l : Locals). Extends names l.0) (sym e) x;
  left = λ h. subst (λ (l : Locals). AreSound l.1) e h;
  written = λ h x. tt;
  again = λ x behind. ap (λ (l : Locals). (l.0, behind)) e;
}

pub first_in : {names : List Name} {P Q : Naming} {ss : List Sym} {s end : Locals} → AgainIn names P ss s end → AgainIn names (P ∥ Q) ss s end
first_in a = record { grows = a.grows; left = a.left; written = a.written; again = λ x behind. inl (a.again x behind) }
