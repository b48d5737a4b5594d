-- What a content has, which is on its way through an encoder into a document.
use Rattle.std.specs.Prelude.{◌≡◌, ℕ, ◌+◌, ◌≤◌, List, ◌++◌, length, take, Some}
use Rattle.deflate.specs.Histories.{EncodesText}
use Rattle.deflate.specs.Zlib.{unzlib}
use Rattle.deflate.specs.declared.sizes.TheConstants.{PIECE}
use Rattle.devices.specs.Sinks.{SinkState}
use Rattle.pieces.specs.Texts.{IsSound, Puts, counted}
use Rattle.pieces.specs.declared.text.Text.{Text}
use Rattle.pdf.specs.declared.content.PageContent.{PageContent}

-- after these bytes of the stream were put into the document, a content has this text
pub record Holds (sent : List ℕ) (content : PageContent) (text : List ℕ) : Type 0 where
  pub encoded : List ℕ
  pub encodes : EncodesText sent content.encoder.now encoded
  pub whole : encoded ++ take content.used content.piece ≡ text

-- a content into which more may be put
abbrev pub IsOpen : {K : Type 0} → (K → SinkState) → Text K → PageContent → Type 0
IsOpen state document content = IsSound state document × (content.used ≤ PIECE)

-- these bytes were put into a content, and nothing into the document
pub record Keeps (old new : PageContent) (bytes : List ℕ) : Type 0 where
  pub encoder : new.encoder.ghost_name ≡ old.encoder.ghost_name
  pub within : new.used ≤ PIECE
  pub size : new.size ≡ old.size
  pub holds : (before text : List ℕ) → Holds before old text → Holds before new (text ++ bytes)

-- these bytes were put into a content
pub record Fills {K : Type 0} (state : K → SinkState) (document later : Text K) (old new : PageContent) (bytes : List ℕ) : Type 0 where
  pub encoder : new.encoder.ghost_name ≡ old.encoder.ghost_name
  pub sound : IsOpen state later new
  pub sent : List ℕ
  pub puts : Puts state document later sent
  pub size : counted new.size ≡ counted (old.size + length sent)
  pub holds : (before text : List ℕ) → Holds before old text → Holds (before ++ sent) new (text ++ bytes)

-- the stream of a content was ended
pub record Ends {K : Type 0} (state : K → SinkState) (document later : Text K) (old : PageContent) (size : ℕ) : Type 0 where
  pub sent : List ℕ
  pub puts : Puts state document later sent
  pub counts : size ≡ counted (old.size + length sent)
  pub stream : (before text : List ℕ) → Holds before old text → unzlib (before ++ sent) ≡ Some text
