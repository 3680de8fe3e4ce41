-- The causes of the faults that only this program has, by the request.
use Rattle.std.specs.Prelude.{ℕ, ◌++◌, List, Option, None, Some, codes, string_bytes}
use Rattle.std.specs.Fmt.{decimal}
use Rattle.std.specs.Option.{option_flatten, option_map}
use Rattle.spool_admin.specs.AdminForms.{dir_of, into_dir_of}
use Rattle.spool_admin.specs.declared.fault.AdminFault.{AdminFault}
use Rattle.spool_admin.specs.declared.fault.AdminFault.TheVariants.{BadMedia, BadUri, Ended, EpochEnd, Full, Halves, Missing, Queue, Smaller, Taken, Unended, Unfinished}
use Rattle.spool_admin.specs.declared.words.Asked.{Asked}
use Rattle.spool_admin.specs.declared.words.Asked.TheVariants.{Grow, Remove, Set}

-- A new file of another size that is too small.
abbrev pub grown_cause : List ℕ → ℕ → AdminFault → Option (List ℕ)
grown_cause dir size Smaller = Some (decimal size ++ (codes " is less than the size of " ++ (dir ++ (codes "/spool.disk (see spool_admin look " ++ (dir ++ codes ")")))))
grown_cause dir size Full = Some (codes "the contents of " ++ (dir ++ (codes "/spool.disk do not fit into half of " ++ (decimal size ++ codes " bytes"))))
grown_cause dir size fault = None

-- A new file of the same size that is too small.
abbrev pub listed_cause : List ℕ → AdminFault → Option (List ℕ)
listed_cause dir Full = Some (codes "the contents do not fit into half of a file of this size (enlarge " ++ (dir ++ codes "/spool.disk first: spool_admin grow)"))
listed_cause dir fault = None

abbrev pub size_cause : Asked → AdminFault → Option (List ℕ)
size_cause (Grow dir size) fault = grown_cause dir.now size fault
size_cause request fault = listed_cause (dir_of request) fault

abbrev pub queue_cause : List ℕ → List ℕ → List ℕ
queue_cause dir name = codes "the spool in " ++ (dir ++ (codes " has no queue " ++ name))

-- The folders, by that of the spool and that for the part.
abbrev pub folder_cause : List ℕ → List ℕ → AdminFault → Option (List ℕ)
folder_cause dir into EpochEnd = Some (dir ++ codes "/spool.disk has had its last checkpoint")
folder_cause dir into Taken = Some (into ++ codes " has a spool already (move it away, or name another folder)")
folder_cause dir into Unfinished = Some (dir ++ codes "/spool.split has the folder and the queues of a split that is not finished (finish that one first)")
folder_cause dir into Halves = Some (codes "failed: the device of " ++ (dir ++ (codes " or of " ++ (into ++ codes " failed (see the system's log)"))))
folder_cause dir into (Missing name) = Some (queue_cause dir (string_bytes name))
folder_cause dir into fault = None

-- A word of the request that is refused.
abbrev pub word_cause : List ℕ → List ℕ → AdminFault → Option (List ℕ)
word_cause dir word Queue = Some (queue_cause dir word)
word_cause dir word Unended = Some (codes "queue " ++ (word ++ (codes " of the spool in " ++ (dir ++ codes " (cancel its jobs, or wait for their ends)"))))
word_cause dir word Ended = Some (codes "queue " ++ (word ++ (codes " of the spool in " ++ dir)))
word_cause dir word BadUri = Some (word ++ codes " is no absolute URI of up to 1023 characters, such as socket://192.0.2.9/")
word_cause dir word BadMedia = Some (word ++ codes " is no type such as application/pdf")
word_cause dir word fault = None

-- The word that a fault is about.
abbrev pub word_of : Asked → AdminFault → Option (List ℕ)
word_of (Set words) BadUri = option_map (λ uri. uri.now) words.uri
word_of (Set words) BadMedia = option_map (λ media. media.now) words.media
word_of (Set words) fault = Some words.name.now
word_of (Remove words) fault = Some words.name.now
word_of request fault = None

abbrev pub request_cause : Asked → AdminFault → Option (List ℕ)
request_cause request fault = option_flatten (option_map (λ word. word_cause (dir_of request) word fault) (word_of request fault))

abbrev pub admin_cause : Asked → AdminFault → Option (List ℕ)
admin_cause request Smaller = size_cause request Smaller
admin_cause request Full = size_cause request Full
admin_cause request Queue = request_cause request Queue
admin_cause request Unended = request_cause request Unended
admin_cause request Ended = request_cause request Ended
admin_cause request BadUri = request_cause request BadUri
admin_cause request BadMedia = request_cause request BadMedia
admin_cause request fault = folder_cause (dir_of request) (into_dir_of request) fault
