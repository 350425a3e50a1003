-- The words of the kind of a signature, and of its CMS message.
use Rattle.std.specs.Prelude.{ℕ, List, [], ◌++◌, codes}
use Rattle.std.specs.Fmt.{decimal}
use Rattle.mach_cli.specs.Fields.{word_if}
use Rattle.mach_signature.specs.Kinds.{has_hardened_runtime, has_library_validation, is_ad_hoc, is_linker_signed}
use Rattle.mach_signature.specs.declared.kind.Cms.{Cms}
use Rattle.mach_signature.specs.declared.kind.Cms.TheVariants.{Lacking, Long, Unreadable}
use Rattle.mach_signature.specs.declared.kind.Kind.{Kind}

abbrev pub cms_words : Cms → List ℕ
cms_words Lacking = codes "no CMS"
cms_words (Long len) = codes "CMS of " ++ (decimal len ++ codes " bytes")
cms_words Unreadable = codes "CMS unreadable"

-- why it isn't known who signed, and the line that says so
abbrev pub why_unknown : Cms → List ℕ
why_unknown Lacking = codes "no CMS"
why_unknown (Long len) = codes "the CMS signature isn't verified"
why_unknown Unreadable = codes "the CMS can't be read"

abbrev pub unchecked_line : Cms → List ℕ
unchecked_line cms = codes "not checked: who signed (" ++ (why_unknown cms ++ codes ")\n")

abbrev pub signature_words : Kind → List ℕ
signature_words k =
    word_if (is_ad_hoc k) (codes "ad hoc, ") [] ++ (word_if (is_linker_signed k) (codes "linker-signed, ") [] ++ (cms_words k.cms
    ++ (codes ", hardened runtime " ++ (word_if (has_hardened_runtime k) (codes "yes") (codes "no")
    ++ (codes ", library validation " ++ word_if (has_library_validation k) (codes "yes") (codes "no"))))))

-- its line
abbrev pub kind_line : Kind → List ℕ
kind_line k = codes "signature: " ++ (signature_words k ++ codes "\n")
