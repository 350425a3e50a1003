-- How a file and its images are written: as text, or as an object of JSON on a line (RFC 8259).
use Rattle.std.specs.Prelude.{◌==◌, ℕ, Bool, List, [], ◌++◌, codes, if◌then◌else◌}
use Rattle.std.specs.Fmt.{decimal}
use Rattle.mach_cli.specs.JsonArrays.{error_end}
use Rattle.mach_cli.specs.JsonText.{json_string}
use Rattle.mach_cli.specs.Labels.{LabelView, unlabelled, of_entry, of_member, label_line, object_front}
use Rattle.mach_cli.specs.NmHeadings.{nm_heading}

pub record SinkTexts : Type 0 where
  -- before the images of a file, by how many of its entries are left out; and after them, by whether the limit leaves out more images,
  -- and by the kind and the name of the file
  pub file_front : (left_out : ℕ) → List ℕ
  pub file_end : (is_cut : Bool) → (kind name : List ℕ) → List ℕ
  -- in place of both: why nothing is shown of the file
  pub refused_file : (name words : List ℕ) → List ℕ
  -- between two images
  pub separator : List ℕ
  -- before what a program shows of an image of a file of this name, and after it
  pub image_front : (name : List ℕ) → LabelView → List ℕ
  pub image_end : List ℕ
  -- in place of that and its end: that it is an archive, which has no member; or why it isn't shown
  pub archive : List ℕ
  pub refused_image : LabelView → (words : List ℕ) → List ℕ

-- an image that is the whole file is refused on the error output alone
abbrev pub refused_text : LabelView → (words : List ℕ) → List ℕ
refused_text unlabelled words = []
refused_text (of_entry i cpu) words = codes "refused: " ++ (words ++ codes "\n")
refused_text (of_member i cpu m) words = codes "refused: " ++ (words ++ codes "\n")

-- Each image has a line with its label above it.
abbrev pub text_texts : SinkTexts
text_texts = record {
  file_front = λ left_out. [];
  file_end = λ is_cut kind name. [];
  refused_file = λ name words. [];
  separator = [];
  image_front = λ name. label_line;
  image_end = [];
  archive = codes "archive\n";
  refused_image = refused_text;
}

-- The same with the headings of `llvm-nm`, which have the file's name.
abbrev pub nm_texts : SinkTexts
nm_texts = record text_texts { image_front = nm_heading }

-- what precedes the objects of the images of a file
abbrev pub document_front : (left_out : ℕ) → List ℕ
document_front left_out =
    if left_out == 0 then codes "{\"images\":[" else codes "{\"entries_left_out\":" ++ (decimal left_out ++ codes ",\"images\":[")

-- what follows the objects of the images of a file
abbrev pub cut_member : (is_cut : Bool) → List ℕ
cut_member is_cut = if is_cut then codes ",\"limit_met\":true" else []

abbrev pub document_end : (is_cut : Bool) → (kind name : List ℕ) → List ℕ
document_end is_cut kind name =
    codes "],\"kind\":\"" ++ (kind ++ (codes "\"" ++ (cut_member is_cut ++ (codes ",\"name\":" ++ (json_string name ++ codes "}\n")))))

-- the object of a file of which nothing is shown, and why
abbrev pub refusal_object : (name words : List ℕ) → List ℕ
refusal_object name words = codes "{\"error\":\"" ++ (words ++ (codes "\",\"images\":[],\"name\":" ++ (json_string name ++ codes "}\n")))

-- Each file is an object, and each image an element of its array. The words of a refusal need no escapes: they are fixed texts
-- and numbers.
abbrev pub json_texts : SinkTexts
json_texts = record {
  file_front = document_front;
  file_end = document_end;
  refused_file = refusal_object;
  separator = codes ",";
  image_front = λ name. object_front;
  image_end = codes "}";
  archive = codes "\"kind\":\"archive\"}";
  refused_image = λ label words. error_end words;
}
