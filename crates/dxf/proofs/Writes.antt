-- Texts as the groups and entries that they are written of.
use Rattle.std.proofs.Common.{◌≡◌, ◌∙◌, ℕ, ◌^◌, ◌<◌, ◌==◌, false, List, [], ◌∷◌, ◌++◌, flat_map, refl, sym, append-nil}
use Rattle.std.proofs.lemmas.List.Concat.{flat_map-append}
use Rattle.pieces.proofs.Scans.{Lacks}
use Rattle.dxf.specs.Groups.{group}
use Rattle.dxf.specs.Reader.{Entry, Group}
use Rattle.dxf.proofs.GroupReads.{AreEntries, AreFields, IsEntry, all_groups, entries_both, entries_text, fields_both, group_text, is_newline}

-- a text of fields
pub record Fields (text : List ℕ) (gs : List Group) : Type 0 where
  pub is : text ≡ flat_map group_text gs
  pub good : AreFields gs

-- an entry that has begun
pub record Begins (text : List ℕ) (e : Entry) : Type 0 where
  pub is : text ≡ flat_map group_text (all_groups e)
  pub good : IsEntry e

-- a text of entries
pub record Writes (text : List ℕ) (es : List Entry) : Type 0 where
  pub is : text ≡ entries_text es
  pub good : AreEntries es

pub no_fields : Fields [] []
no_fields = record { is = refl; good = tt }

pub one_field : (code : ℕ) (value : List ℕ) → code < 2 ^ 64 → (code == 0) ≡ false → Lacks is_newline value → Fields (group code value) (record { code = code; value = value } ∷ [])
one_field code value small within lacks = record {
  is = sym (append-nil (group code value));
  good = (record { good = record { code = small; value = lacks }; within = within }, tt);
}

pub both_fields : {t u : List ℕ} {gs hs : List Group} → Fields t gs → Fields u hs → Fields (t ++ u) (gs ++ hs)
both_fields {t} {u} {gs} {hs} f h = record {
  is = (λ i. f.is i ++ h.is i) ∙ sym (flat_map-append group_text gs hs);
  good = fields_both gs hs f.good h.good;
}

pub begins : (kind : List ℕ) → Lacks is_newline kind → Begins (group 0 kind) (record { kind = kind; fields = [] })
begins kind lacks = record {
  is = sym (append-nil (group 0 kind));
  good = record { kind = lacks; fields = tt };
}

pub goes_on : {t u : List ℕ} {kind : List ℕ} {gs hs : List Group} → Begins t (record { kind = kind; fields = gs }) → Fields u hs → Begins (t ++ u) (record { kind = kind; fields = gs ++ hs })
goes_on {t} {u} {kind} {gs} {hs} b f = record {
  is = (λ i. b.is i ++ f.is i) ∙ sym (flat_map-append group_text (record { code = 0; value = kind } ∷ gs) hs);
  good = record { kind = b.good.kind; fields = fields_both gs hs b.good.fields f.good };
}

pub ends : {t : List ℕ} {e : Entry} → Begins t e → Writes t (e ∷ [])
ends {t} {e} b = record {
  is = b.is ∙ sym (append-nil (flat_map group_text (all_groups e)));
  good = (b.good, tt);
}

pub nothing_written : Writes [] []
nothing_written = record { is = refl; good = tt }

pub both_written : {t u : List ℕ} {es fs : List Entry} → Writes t es → Writes u fs → Writes (t ++ u) (es ++ fs)
both_written {t} {u} {es} {fs} w v = record {
  is = (λ i. w.is i ++ v.is i) ∙ sym (flat_map-append (λ e. flat_map group_text (all_groups e)) es fs);
  good = entries_both es fs w.good v.good;
}
