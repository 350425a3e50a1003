-- What contracts see of bytes that know their place.
use Rattle.mach_archive.specs.declared.placed.Placed.{Placed}
use Rattle.mach_archive.specs.Places.{PlacedText}

abbrev pub placed_view : Placed → PlacedText
placed_view p = record { place = p.at; text = p.bytes.now }
