-- Bytes that are put into a content one after another.
use Rattle.std.proofs.Common.{◌≡◌, ℕ, List, [], ◌++◌, refl, sym, ap, ◌∙◌, append_assoc, append-nil, length-append, arith, subst}
use Rattle.devices.specs.Sinks.{SinkState}
use Rattle.pieces.specs.declared.text.Text.{Text}
use Rattle.pieces.proofs.Texts.{none_put, ◌then◌}
use Rattle.pdf.specs.Contained.{Fills, Holds, IsOpen, Keeps}
use Rattle.pdf.specs.declared.content.PageContent.{PageContent}

-- nothing was put into the document
pub kept : {K : Type 0} {state : K → SinkState} {t : Text K} {a b : PageContent} {bytes : List ℕ} → IsOpen state t a → Keeps a b bytes → Fills state t t a b bytes
kept {b = b} {bytes = bytes} sound h = record {
  encoder = h.encoder;
  sound = (sound.0, h.within);
  sent = [];
  puts = none_put sound.0;
  size = omega (arith, h.size);
  holds = λ before text p.
      subst (λ (z : List ℕ). Holds z b (text ++ bytes)) (sym (append-nil before)) (h.holds before text p);
}

-- no bytes were put
pub nothing : {K : Type 0} {state : K → SinkState} {t : Text K} {a : PageContent} → IsOpen state t a → Fills state t t a a []
nothing {a = a} sound =
    kept sound
    (record { encoder = refl; within = sound.1; size = refl; holds = λ before text h. record { encoded = h.encoded; encodes = h.encodes; whole = h.whole ∙ sym (append-nil text) } })

-- bytes were put, and then others
infixl 9 ◌next◌
pub ◌next◌ : {K : Type 0} {state : K → SinkState} {t u v : Text K} {a b c : PageContent} {xs ys : List ℕ} → Fills state t u a b xs → Fills state u v b c ys → Fills state t v a c (xs ++ ys)
◌next◌ {c = c} {xs = xs} {ys = ys} h k = record {
  encoder = k.encoder ∙ h.encoder;
  sound = k.sound;
  sent = h.sent ++ k.sent;
  puts = h.puts then k.puts;
  size = omega (arith, h.size, k.size, length-append h.sent k.sent);
  holds = λ before text p.
      subst (λ (z : List ℕ). Holds z c (text ++ (xs ++ ys))) (append_assoc before h.sent k.sent)
      (subst (λ (z : List ℕ). Holds ((before ++ h.sent) ++ k.sent) c z) (append_assoc text xs ys) (k.holds (before ++ h.sent) (text ++ xs) (h.holds before text p)));
}

-- these bytes, in other words
pub fills_as : {K : Type 0} {state : K → SinkState} {t u : Text K} {a b : PageContent} {xs ys : List ℕ} → Fills state t u a b xs → xs ≡ ys → Fills state t u a b ys
fills_as {state = state} {t = t} {u = u} {a = a} {b = b} h e = subst (λ (z : List ℕ). Fills state t u a b z) e h

-- of all bytes, these are still to be put
pub record Remains {K : Type 0} (state : K → SinkState) (document later : Text K) (old new : PageContent) (rest all : List ℕ) : Type 0 where
  pub so_far : List ℕ
  pub fills : Fills state document later old new so_far
  pub all_is : so_far ++ rest ≡ all

-- at first all are
pub all_remain : {K : Type 0} {state : K → SinkState} {t : Text K} {a : PageContent} {rest all : List ℕ} → IsOpen state t a → rest ≡ all → Remains state t t a a rest all
all_remain sound e = record { so_far = []; fills = nothing sound; all_is = e }

-- the next ones were put
pub next_filled : {K : Type 0} {state : K → SinkState} {t u v : Text K} {a b c : PageContent} {xs rest left all : List ℕ} → Remains state t u a b left all → Fills state u v b c xs → left ≡ xs ++ rest → Remains state t v a c rest all
next_filled {xs = xs} {rest = rest} h k e = record {
  so_far = h.so_far ++ xs;
  fills = h.fills next k;
  all_is = append_assoc h.so_far xs rest ∙ ap (λ (z : List ℕ). h.so_far ++ z) (sym e) ∙ h.all_is;
}

-- the last ones were put
pub last_filled : {K : Type 0} {state : K → SinkState} {t u v : Text K} {a b c : PageContent} {xs left all : List ℕ} → Remains state t u a b left all → Fills state u v b c xs → left ≡ xs → Fills state t v a c all
last_filled h k e = fills_as (h.fills next k) (ap (λ (z : List ℕ). h.so_far ++ z) (sym e) ∙ h.all_is)

-- none remain
pub all_filled : {K : Type 0} {state : K → SinkState} {t u : Text K} {a b : PageContent} {left all : List ℕ} → Remains state t u a b left all → left ≡ [] → Fills state t u a b all
all_filled h e = fills_as h.fills (sym (append-nil h.so_far) ∙ ap (λ (z : List ℕ). h.so_far ++ z) (sym e) ∙ h.all_is)
