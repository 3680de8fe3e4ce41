-- The status codes of answers (RFC 8011 appendix B).
use Rattle.std.specs.Prelude.{ℕ, ◌==◌, List, [], ◌∷◌, codes, Option}
use Rattle.std.specs.List.{find}
use Rattle.ipp_names.specs.declared.statuses.Status.{Status}
use Rattle.ipp_names.specs.declared.statuses.Status.TheVariants.{SuccessfulOk, SuccessfulOkIgnoredOrSubstitutedAttributes, SuccessfulOkConflictingAttributes, BadRequest, Forbidden, NotAuthenticated, NotAuthorized, NotPossible, Timeout, NotFound, Gone, RequestEntityTooLarge, RequestValueTooLong, DocumentFormatNotSupported, AttributesOrValuesNotSupported, UriSchemeNotSupported, CharsetNotSupported, ConflictingAttributes, CompressionNotSupported, CompressionError, DocumentFormatError, DocumentAccessError, InternalError, OperationNotSupported, ServiceUnavailable, VersionNotSupported, DeviceError, TemporaryError, NotAcceptingJobs, Busy, JobCanceled, MultipleDocumentJobsNotSupported}

-- A status code (RFC 8011 appendix B).
abbrev pub status_number : Status → ℕ
status_number SuccessfulOk = 0x0000
status_number SuccessfulOkIgnoredOrSubstitutedAttributes = 0x0001
status_number SuccessfulOkConflictingAttributes = 0x0002
status_number BadRequest = 0x0400
status_number Forbidden = 0x0401
status_number NotAuthenticated = 0x0402
status_number NotAuthorized = 0x0403
status_number NotPossible = 0x0404
status_number Timeout = 0x0405
status_number NotFound = 0x0406
status_number Gone = 0x0407
status_number RequestEntityTooLarge = 0x0408
status_number RequestValueTooLong = 0x0409
status_number DocumentFormatNotSupported = 0x040a
status_number AttributesOrValuesNotSupported = 0x040b
status_number UriSchemeNotSupported = 0x040c
status_number CharsetNotSupported = 0x040d
status_number ConflictingAttributes = 0x040e
status_number CompressionNotSupported = 0x040f
status_number CompressionError = 0x0410
status_number DocumentFormatError = 0x0411
status_number DocumentAccessError = 0x0412
status_number InternalError = 0x0500
status_number OperationNotSupported = 0x0501
status_number ServiceUnavailable = 0x0502
status_number VersionNotSupported = 0x0503
status_number DeviceError = 0x0504
status_number TemporaryError = 0x0505
status_number NotAcceptingJobs = 0x0506
status_number Busy = 0x0507
status_number JobCanceled = 0x0508
status_number MultipleDocumentJobsNotSupported = 0x0509

abbrev pub statuses : List Status
statuses = SuccessfulOk ∷ SuccessfulOkIgnoredOrSubstitutedAttributes ∷ SuccessfulOkConflictingAttributes ∷ BadRequest ∷ Forbidden ∷ NotAuthenticated ∷ NotAuthorized ∷ NotPossible ∷ Timeout ∷ NotFound ∷ Gone ∷ RequestEntityTooLarge ∷ RequestValueTooLong ∷ DocumentFormatNotSupported ∷ AttributesOrValuesNotSupported ∷ UriSchemeNotSupported ∷ CharsetNotSupported ∷ ConflictingAttributes ∷ CompressionNotSupported ∷ CompressionError ∷ DocumentFormatError ∷ DocumentAccessError ∷ InternalError ∷ OperationNotSupported ∷ ServiceUnavailable ∷ VersionNotSupported ∷ DeviceError ∷ TemporaryError ∷ NotAcceptingJobs ∷ Busy ∷ JobCanceled ∷ MultipleDocumentJobsNotSupported ∷ []

abbrev pub status_of : ℕ → Option Status
status_of number = find (λ found. status_number found == number) statuses

abbrev pub status_keyword : Status → List ℕ
status_keyword SuccessfulOk = codes "successful-ok"
status_keyword SuccessfulOkIgnoredOrSubstitutedAttributes = codes "successful-ok-ignored-or-substituted-attributes"
status_keyword SuccessfulOkConflictingAttributes = codes "successful-ok-conflicting-attributes"
status_keyword BadRequest = codes "client-error-bad-request"
status_keyword Forbidden = codes "client-error-forbidden"
status_keyword NotAuthenticated = codes "client-error-not-authenticated"
status_keyword NotAuthorized = codes "client-error-not-authorized"
status_keyword NotPossible = codes "client-error-not-possible"
status_keyword Timeout = codes "client-error-timeout"
status_keyword NotFound = codes "client-error-not-found"
status_keyword Gone = codes "client-error-gone"
status_keyword RequestEntityTooLarge = codes "client-error-request-entity-too-large"
status_keyword RequestValueTooLong = codes "client-error-request-value-too-long"
status_keyword DocumentFormatNotSupported = codes "client-error-document-format-not-supported"
status_keyword AttributesOrValuesNotSupported = codes "client-error-attributes-or-values-not-supported"
status_keyword UriSchemeNotSupported = codes "client-error-uri-scheme-not-supported"
status_keyword CharsetNotSupported = codes "client-error-charset-not-supported"
status_keyword ConflictingAttributes = codes "client-error-conflicting-attributes"
status_keyword CompressionNotSupported = codes "client-error-compression-not-supported"
status_keyword CompressionError = codes "client-error-compression-error"
status_keyword DocumentFormatError = codes "client-error-document-format-error"
status_keyword DocumentAccessError = codes "client-error-document-access-error"
status_keyword InternalError = codes "server-error-internal-error"
status_keyword OperationNotSupported = codes "server-error-operation-not-supported"
status_keyword ServiceUnavailable = codes "server-error-service-unavailable"
status_keyword VersionNotSupported = codes "server-error-version-not-supported"
status_keyword DeviceError = codes "server-error-device-error"
status_keyword TemporaryError = codes "server-error-temporary-error"
status_keyword NotAcceptingJobs = codes "server-error-not-accepting-jobs"
status_keyword Busy = codes "server-error-busy"
status_keyword JobCanceled = codes "server-error-job-canceled"
status_keyword MultipleDocumentJobsNotSupported = codes "server-error-multiple-document-jobs-not-supported"
