-- The keywords of the properties of printers.
use Rattle.std.specs.Prelude.{ℕ, cond, List, codes, Option, None, Some}
use Rattle.ipp_printers.specs.MediaNames.{same}
use Rattle.ipp_printers.specs.declared.kind.PropertyKind.{PropertyKind}
use Rattle.ipp_printers.specs.declared.kind.PropertyKind.TheVariants.{Info, Location, MakeAndModel, DeviceId, Media, Color, Duplex, Resolutions, OutputBins, PagesPerMinute, ColorPagesPerMinute}

-- The word that begins the line of a property.
abbrev pub keyword_of : PropertyKind → List ℕ
keyword_of Info = codes "info"
keyword_of Location = codes "location"
keyword_of MakeAndModel = codes "make-and-model"
keyword_of DeviceId = codes "device-id"
keyword_of Media = codes "media"
keyword_of Color = codes "color"
keyword_of Duplex = codes "duplex"
keyword_of Resolutions = codes "resolutions"
keyword_of OutputBins = codes "output-bins"
keyword_of PagesPerMinute = codes "pages-per-minute"
keyword_of ColorPagesPerMinute = codes "pages-per-minute-color"

-- The property whose line begins with this word.
abbrev pub kind_named : List ℕ → Option PropertyKind
kind_named word =
    cond (same word (keyword_of Info)) (Some Info)
    (cond (same word (keyword_of Location)) (Some Location)
    (cond (same word (keyword_of MakeAndModel)) (Some MakeAndModel)
    (cond (same word (keyword_of DeviceId)) (Some DeviceId)
    (cond (same word (keyword_of Media)) (Some Media)
    (cond (same word (keyword_of Color)) (Some Color)
    (cond (same word (keyword_of Duplex)) (Some Duplex)
    (cond (same word (keyword_of Resolutions)) (Some Resolutions)
    (cond (same word (keyword_of OutputBins)) (Some OutputBins)
    (cond (same word (keyword_of PagesPerMinute)) (Some PagesPerMinute)
    (cond (same word (keyword_of ColorPagesPerMinute)) (Some ColorPagesPerMinute)
    None))))))))))
