-- How a reader keeps the places that wait for a tag, in frames. These are words of its loop; which tags spell a tree stands in Places.
use Rattle.std.specs.Prelude.{List, replicate, reverse}
use Rattle.std.specs.List.{flat_map}
use Rattle.sf_certificate.specs.declared.place.Place.{Place}
use Rattle.sf_cert_text.specs.declared.waiting.Frame.{Frame}

-- the places of the frames, from the last frame to the first
abbrev pub places_of : List Frame → List Place
places_of frames = flat_map (λ frame. replicate frame.count frame.place) (reverse frames)
